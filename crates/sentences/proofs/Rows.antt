-- What the rows of the code say, by a search from row to row.
use mathlib.Core.Bool.{Bool, true, false, cond}
use mathlib.Core.List.{List, [], ◌∷◌, map}
use mathlib.Core.Logic.{⊎_elim}
use mathlib.Core.Path.{◌≡◌, refl, sym, ◌∙◌, ap}
use Prim.Native.Nat.{ℕ, ◌<◌}
use native.Mathlib.Omega.{arith}
use borrow.Author.Tests.{eq-eqb}
use lib.Dec.{eqb, ltb}
use lib.ListN.{length}
use Rattle.std.specs.Prelude.{Option, Some}
use Rattle.std.specs.List.{find}
use Rattle.model.specs.Finite.{both, all, pick}
use Rattle.model.specs.Page.{bytes, newline}
use Rattle.theory.proofs.Exec.{tells_lt, tells_all}
use Rattle.theory.proofs.Lists.{first_cases}
use Rattle.sentences.specs.declared.table.Row.{Row}
use Rattle.sentences.specs.Row.{sentence, first_row, said}
use Rattle.sentences.specs.Sentence.{Sentence, sentences, unsaid, has}

-- A row whose number is the one asked for is told by its places.
pub by_places : {x y : ℕ} {s t : Bool} → x ≡ y → s ≡ t → t ≡ both (eqb x y) s
by_places {x} {y} e h = rw (eq-eqb x y e) (sym h)

-- The first row that has a number and a place says the first sentence that does.
said_first : (k p : ℕ) (rows : List Row) → said (find (λ row. has k p (sentence row)) rows) ≡ pick (has k p) (map sentence rows) unsaid
unfolding pick
said_first k p [] = refl
said_first k p (r ∷ rows) = go (has k p (sentence r)) (said_first k p rows)
  where
    go : (b : Bool) → said (find (λ row. has k p (sentence row)) rows) ≡ pick (has k p) (map sentence rows) unsaid
        → said (cond b (Some r) (find (λ row. has k p (sentence row)) rows)) ≡ elim b as (λ _. Sentence) [ true ↦ sentence r | false ↦ pick (has k p) (map sentence rows) unsaid ]
    go true before = refl
    go false before = before

pub said_of_table : (k p : ℕ) (rows : List Row) {found : Option Row} → found ≡ first_row k p rows → map sentence rows ≡ sentences → said found ≡ pick (has k p) sentences unsaid
unfolding first_row
said_of_table k p rows found says = ap said found ∙ said_first k p rows ∙ ap (λ (xs : List Sentence). pick (has k p) xs unsaid) says

module _ (f : Sentence → Bool) where
  -- No row has over 52 bytes of words.
  pub words_most : length (pick f sentences unsaid).words < 53
  unfolding sentences bytes newline all
  words_most =
      ⊎_elim
      (λ w. (tells_all (λ (s : Sentence). ltb (length s.words) 53) (λ s. length s.words < 53) (λ s. tells_lt (length s.words) 53) sentences).fact tt (pick f sentences unsaid) w.0)
      (λ w. let e = ap (λ (s : Sentence). length s.words) w.0 in omega arith) (first_cases f sentences unsaid)
