-- Shelf numbers, of request 2 of document 02: the fields of few tokens, counted, listed and numbered. (In combinatorics: multisets of a size, ranked and
-- unranked in colexicographic order.) In quotes stand document 02's own sentences.
use Rattle.std.specs.Prelude.{Bool, true, false, List, [], ◌∷◌, map, reverse, ℕ, zero, suc, ◌+◌, ◌-◌, eqb, get_or}
use Rattle.model.specs.Finite.{concat, below}
use Rattle.model.specs.Field.{Field, none, ◌⊕◌, times, unit, tokens, agree}
use Rattle.model.specs.Card.{Card, reached_kinds}

-- "how many fields there are: 1 at (0, 0), 0 at (0, t) for t above 0, else the entry for k - 1 and t plus, for t above 0, the entry for k and t - 1."
unfoldable pub entry : ℕ → ℕ → ℕ
entry zero zero = 1
entry zero (suc t) = 0
entry (suc k) zero = entry k zero
entry (suc k) (suc t) = entry k (suc t) + entry (suc k) t

-- "Fields of t tokens are listed with the smaller count of the last kind first, then of the one before it, and so on": of a list of kinds that has the last
-- kind first, those with none of that kind, then those with one of it, up to t, each time in the order of the kinds before it.
unfoldable pub listed : List ℕ → ℕ → List Field
listed [] t = elim (eqb t 0) [ true ↦ none ∷ [] | false ↦ [] ]
listed (k ∷ ks) t = concat (map (λ j. map (λ a. a ⊕ times j (unit k)) (listed ks (t - j))) (below (suc t)))

-- How many members stand before the first that passes: its number, "from number 0".
unfoldable pub place_of : {A : Type 0} → (A → Bool) → List A → ℕ
place_of p [] = 0
place_of p (x ∷ xs) = elim (p x) [ true ↦ 0 | false ↦ suc (place_of p xs) ]

-- "field to number and number to field", among the fields of t tokens.
abbrev pub number_in : List ℕ → ℕ → Field → ℕ
number_in ks t a = place_of (agree ks a) (listed ks t)

abbrev pub field_in : List ℕ → ℕ → ℕ → Field
field_in ks t x = get_or (listed ks t) x none

-- "Shelf numbers run over the reached kinds alone, in number order" (request 6 of document 02): the kinds of a card that the listing runs over, with the last first.
abbrev pub last_first : Card → List ℕ
last_first c = reverse (reached_kinds c)

-- Of a card: its fields of t tokens, the number of a field at its size, and the field of a size and a number.
abbrev pub shelf : Card → ℕ → List Field
shelf c t = listed (last_first c) t

unfoldable pub shelf_number : Card → Field → ℕ
shelf_number c a = number_in (last_first c) (tokens c.kinds a) a

unfoldable pub shelf_field : Card → ℕ → ℕ → Field
shelf_field c t x = field_in (last_first c) t x
