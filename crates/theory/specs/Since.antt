-- What is claimed of the marks of the base (request 9 of document 02, "When did a kind become prime?"), of a sense and the card of an accepted sheet. In quotes stand document 02's own words.
use Rattle.std.specs.Prelude.{◌↔◌, ◌≡◌, ℕ, ◌≤◌, ◌<◌}
use Rattle.model.specs.Field.{unit}
use Rattle.model.specs.Card.{Card, Reached}
use Rattle.model.specs.Sense.{Sense}
use Rattle.model.specs.Base.{stage_row_in, settled_stage_in, settled_row_in, since_in}
use Rattle.theory.specs.Terms.{PrimeIn}

pub record Sinces {ℓ} (m : Sense) (c : Card) : Type (ℓ + 1) where
  -- "the first stage, from 1 up": and no later than the settled stage.
  pub from : (k : ℕ) → Reached c k → 1 ≤ since_in m c k
  pub most : (k : ℕ) → Reached c k → since_in m c k ≤ settled_stage_in m c
  -- "at which its row became the one finally settled": at that stage and at every later one, past the settled stage too, the row is the one finally settled; at no stage before, from 1 up, is it.
  pub stays : (k : ℕ) → Reached c k → (q : ℕ) → since_in m c k ≤ q → stage_row_in m c q k ≡ settled_row_in m c k
  pub first : (k : ℕ) → Reached c k → (q : ℕ) → 1 ≤ q → q < since_in m c k → ¬ (stage_row_in m c q k ≡ settled_row_in m c k)
  -- "When did a kind become prime?" A prime kind is an atom of a stage from 1 up just when that stage is its mark or a later one.
  pub prime : (k : ℕ) → PrimeIn {ℓ} m c k → (q : ℕ) → 1 ≤ q → (stage_row_in m c q k ≡ unit k) ↔ (since_in m c k ≤ q)
  -- Where a kind is reached, the settled stage is the mark of one: it is the greatest of the marks.
  pub attained : (k : ℕ) → Reached c k → (j : ℕ) × Reached c j × (since_in m c j ≡ settled_stage_in m c)
  -- "A kind that is out has no such mark."
  pub out : (k : ℕ) → ¬ Reached c k → since_in m c k ≡ 0
