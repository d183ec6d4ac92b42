-- The verb and the numbers that words say.
use mathlib.Core.Bool.{Bool, true, false, cond, ◌&&◌}
use mathlib.Core.List.{List, [], ◌∷◌, map}
use mathlib.Core.Path.{◌≡◌, refl, sym, ap, ◌∙◌}
use Prim.Native.Nat.{ℕ, ◌<◌}
use native.Mathlib.Omega.{arith}
use lib.ListN.{length, take, drop}
use lib.Dec.{eqb}
use lib.Pointwise.{pointwise}
use Rattle.std.specs.Prelude.{Option, Some, None}
use Rattle.std.specs.List.{find}
use Rattle.model.specs.Finite.{both}
use Rattle.model.specs.Page.{bytes}
use Rattle.words.specs.Words.{first_word, words_of, same_word, numbers_of}
use Rattle.words.proofs.Texts.{part, words_none, words_split}
use Rattle.replies.specs.Told.{no_call}
use Rattle.queries.specs.Query.{said_told, most_numbers, words_told, query_of}
use Rattle.queries.specs.Call.{first_call}
use Rattle.queries.specs.Verb.{Named, verbs, verb_in, verb_of}
use Rattle.queries.specs.declared.table.Verb.{Verb}
use Rattle.queries.specs.declared.table.Call.{Call}

-- The verb that was found, if one was.
abbrev pub verb_found : Option Call → Option Verb
verb_found (Some call) = Some call.verb
verb_found None = None

-- The calls of the code are the verbs of the table, name by name.
pub record AsNamed (calls : List Call) (named : List Named) : Type 0 where
  pub names : map (λ (c : Call). c.name.now) calls ≡ map (λ (x : Named). bytes x.name) named
  pub verbs : map (λ (c : Call). c.verb) calls ≡ map (λ (x : Named). x.verb) named

-- The verb of a list of names and verbs.
abbrev pub verb_by : List (List ℕ) → List Verb → List ℕ → Option Verb
verb_by [] vs word = None
verb_by (n ∷ ns) [] word = None
verb_by (n ∷ ns) (v ∷ vs) word = cond (same_word word n) (Some v) (verb_by ns vs word)

by_calls : (word : List ℕ) (calls : List Call) → verb_found (find (λ call. same_word word call.name.now) calls) ≡ verb_by (map (λ (c : Call). c.name.now) calls) (map (λ (c : Call). c.verb) calls) word
by_calls word [] = refl
by_calls word (c ∷ calls) = go (same_word word c.name.now) (by_calls word calls)
  where
    go : (b : Bool) → verb_found (find (λ call. same_word word call.name.now) calls) ≡ verb_by (map (λ (c : Call). c.name.now) calls) (map (λ (c : Call). c.verb) calls) word
        → verb_found (cond b (Some c) (find (λ call. same_word word call.name.now) calls)) ≡ cond b (Some c.verb) (verb_by (map (λ (c : Call). c.name.now) calls) (map (λ (c : Call). c.verb) calls) word)
    go true before = refl
    go false before = before

by_named : (word : List ℕ) (named : List Named) → verb_in named word ≡ verb_by (map (λ (x : Named). bytes x.name) named) (map (λ (x : Named). x.verb) named) word
unfolding verb_in
by_named word [] = refl
by_named word (x ∷ named) = go (same_word word (bytes x.name)) (by_named word named)
  where
    go : (b : Bool) → verb_in named word ≡ verb_by (map (λ (x : Named). bytes x.name) named) (map (λ (x : Named). x.verb) named) word
        → (elim b as (λ _. Option Verb) [ true ↦ Some x.verb | false ↦ verb_in named word ]) ≡ cond b (Some x.verb) (verb_by (map (λ (x : Named). bytes x.name) named) (map (λ (x : Named). x.verb) named) word)
    go true before = refl
    go false before = before

-- What the code's calls say of a word is what the table says.
pub verb_of_calls : (word : List ℕ) (calls : List Call) {found : Option Call} → found ≡ first_call word calls → AsNamed calls verbs → verb_found found ≡ verb_of word
unfolding first_call verb_of
verb_of_calls word calls found same =
    ap verb_found found ∙ by_calls word calls ∙ ap (λ (ns : List (List ℕ)). verb_by ns (map (λ (c : Call). c.verb) calls) word) same.names
    ∙ ap (λ (vs : List Verb). verb_by (map (λ (x : Named). bytes x.name) verbs) vs word) same.verbs ∙ sym (by_named word verbs)

-- `==` of two words.
and_both : (a b : Bool) → (a && b) ≡ both a b
and_both true b = refl
and_both false b = refl

pub same_words : (xs ys : List ℕ) → pointwise eqb xs ys ≡ same_word xs ys
unfolding same_word
same_words [] [] = refl
same_words [] (y ∷ ys) = refl
same_words (x ∷ xs) [] = refl
same_words (x ∷ xs) (y ∷ ys) = and_both (eqb x y) (pointwise eqb xs ys) ∙ ap (both (eqb x y)) (same_words xs ys)

-- The words of a query: none, or a verb and what follows it.
module _ (s text : List ℕ) where
  pub query_none : length (first_word text) ≡ length text → no_call ≡ query_of s text
  unfolding query_of words_told
  query_none h = ap (words_told s) (sym (words_none text (omega arith)))

  pub query_verb : {end : ℕ} {word others : List ℕ} (verb : Option Verb) (said : Option (List ℕ)) → (end ≡ length (first_word text)) × (end < length text) → word ≡ take end text → others ≡ drop end text
      → verb ≡ verb_of word → said ≡ numbers_of most_numbers (words_of (part others 1)) → said_told s verb said ≡ query_of s text
  unfolding query_of words_told
  query_verb {word = word} verb said ends is_word is_others v e =
      ap (λ (x : Option Verb). said_told s x said) v ∙ ap (said_told s (verb_of word)) e ∙ ap (words_told s) (sym (words_split text ends is_word is_others))
