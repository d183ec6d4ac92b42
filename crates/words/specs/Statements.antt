-- What the definitions of words and numbers come to.
use Rattle.std.specs.Prelude.{true, not, Some, MatchOption, List, [], ◌∷◌, ◌++◌, ◌≡◌, ℕ, ◌<◌, ◌≤◌, ◌==◌, eqb, length, position}
use Rattle.model.specs.Finite.{all}
use Rattle.model.specs.Page.{number}
use Rattle.words.specs.Word.{number_of}
use Rattle.words.specs.Words.{first_word, words_of}

-- Words as a text: a byte 0 after each.
unfoldable pub ended : List (List ℕ) → List ℕ
ended [] = []
ended (w ∷ ws) = w ++ 0 ∷ ended ws

pub record Statements : Type 0 where
  -- Words in which no byte is 0 are read back from their text.
  pub words : (ws : List (List ℕ)) → all (all (λ c. not (eqb c 0))) ws ≡ true → words_of (ended ws) ≡ ws
  -- The first byte 0 of a text is the end of its first word; where there is none, that word has all its bytes.
  pub ends : (text : List ℕ) → MatchOption (position (λ byte. byte == 0) text) (length (first_word text) ≡ length text) (λ end. (end ≡ length (first_word text)) × (end < length text))
  -- A number written in decimal is read back, where it is at most the largest that is wanted.
  pub number : (most x : ℕ) → x ≤ most → number_of most (number x) ≡ Some x
