-- Lines in order, which of them a field may use, and how far its counts grow.
use Rattle.std.specs.Prelude.{Bool, List, ◌≡◌, ℕ, ◌+◌, ◌-◌, ◌*◌, ◌≤◌, ltb, eqb, length}
use Rattle.model.specs.Finite.{both, list_from, least_from}
use Rattle.model.specs.Field.{Field, at}
use Rattle.model.specs.Card.{Line}
use Rattle.model.specs.Limits.{most_kinds, most_rounds}

-- "A field with a token of kind X may use a line of X."
abbrev pub usable : Field → Line → Bool
usable a l = ltb 0 (a l.kind)

-- "A reply is a line of the same code that the other side may use."
abbrev pub answers : Line → Field → Line → Bool
answers l b m = both (usable b m) (eqb m.code l.code)

-- Of what f numbers, that from one number up to another, which is not among them.
abbrev pub between : {A : Type 0} → (ℕ → A) → ℕ → ℕ → List A
between f from to = list_from f from (to - from)

-- "in line order": the number of the first of them that passes a test, the end of them where none does.
abbrev pub next_of : {A : Type 0} → (A → Bool) → (ℕ → A) → ℕ → ℕ → ℕ
next_of p f from to = least_from (λ j. p (f j)) from (to - from)

-- The counts of a field, as many as a card may have kinds: with r of 8 rounds left none has passed 65,535 + 255 × (8 - r).
pub record Bounded (r : ℕ) (a : List ℕ) : Type 0 where
  pub long : length a ≡ most_kinds
  pub most : (k : ℕ) → at a k ≤ 65535 + 255 * (most_rounds - r)
