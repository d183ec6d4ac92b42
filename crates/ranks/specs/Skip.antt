-- The first entry of a list, from a place on, that does not come before a line.
use Rattle.std.specs.Prelude.{List, ℕ, ◌≤◌, ◌<◌, length}
use Rattle.model.specs.Field.{at}

-- Place r of a list is the first, from place start on, whose entry does not come before i, by a relation B that says which numbers come before which; it is the end of the list where there is none.
pub record FirstNotBefore (B : ℕ → ℕ → Type 0) (xs : List ℕ) (start i r : ℕ) : Type 0 where
  pub onward : start ≤ r
  pub within : r ≤ length xs
  pub before : (x : ℕ) → start ≤ x → x < r → B (at xs x) i
  pub first : r < length xs → B (at xs r) i → ⊥
