-- What a test of each entry of a list comes to.
-- Assumes nothing.
use Rattle.std.proofs.Common.{◌≡◌, ◌↔◌, Bool, true, false, refl, ℕ, ◌<◌, List, length, arith}
use Rattle.std.specs.Bool.{MatchBool}
use Rattle.std.specs.List.{AllWithin, HoldsAt}
use Rattle.model.specs.Field.{at}
use Rattle.tables.specs.Match.{Among}
use Rattle.tables.proofs.Tables.{tells_same, tells_other}

module _ (P : ℕ → Type 0) where
  -- P of each entry of a list, where the test answers true; no entry's P, where it answers false.
  abbrev pub Tried : Bool → List ℕ → Type 0
  Tried r xs = MatchBool r (AllWithin P xs 0 (length xs)) ((k : ℕ) × (k < length xs) × HoldsAt (λ i. P i → ⊥) xs k)

  pub entries_tried : (r : Bool) (xs : List ℕ) → Tried r xs → (r ≡ true) ↔ ((j : ℕ) → Among xs j → P j)
  entries_tried true xs m = tells_same (λ j a. rw a.2 at (m a.0 0 (omega arith) a.1))
  entries_tried false xs m = tells_other (λ f. m.2 0 (f (at xs m.0) (m.0, m.1, refl)))
