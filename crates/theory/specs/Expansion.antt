-- Expansion and bisimulation (document 000, section 2), and alike in each sense, as types.
use Rattle.std.specs.Prelude.{◌≡◌, ℕ, ◌<◌}
use Rattle.model.specs.Field.{Field}
use Rattle.model.specs.Card.{Line, Card, On, fire}
use Rattle.model.specs.Sense.{Sense, plain, finer, total}

-- A reply to a read of code c that left x: a line of L that b may use, of the same code, with the results related.
pub record Reply {ℓ} (L : Line → Type 0) (R : Field → Field → Type ℓ) (c : ℕ) (x b : Field) : Type ℓ where
  pub line : Line
  pub on : L line
  pub can : 0 < b line.kind
  pub same : line.code ≡ c
  pub rel : R x (fire line b)

-- Each read of the first side by a line of L has a reply of the second, of the same code and with the results related.
abbrev pub Simulates {ℓ} : (Line → Type 0) → (Field → Field → Type ℓ) → Field → Field → Type ℓ
Simulates L R a b = (l : Line) → L l → 0 < a l.kind → Reply L R l.code (fire l a) b

abbrev pub flip {ℓ} : (Field → Field → Type ℓ) → Field → Field → Type ℓ
flip R x y = R y x

-- "A pair satisfies expansion in a relation when each read of either side has a read of the same code on the other and the
-- results are related." L is the card's lines, or those that lower the norm, "for challenge and reply alike".
abbrev pub Expands {ℓ} : (Line → Type 0) → (Field → Field → Type ℓ) → Field → Field → Type ℓ
Expands L R a b = Simulates L R a b × Simulates L (flip R) b a

-- A bisimulation: each of its pairs satisfies expansion in it. Two fields are bisimilar when one relates them.
abbrev pub Bisimulation {ℓ} : (Line → Type 0) → (Field → Field → Type ℓ) → Type ℓ
Bisimulation L R = (a b : Field) → R a b → Expands L R a b

unfoldable pub Bisimilar {ℓ} : (Line → Type 0) → Field → Field → Type (ℓ + 1)
Bisimilar L a b = (R : Field → Field → Type ℓ) × Bisimulation L R × R a b

-- Request 7 of document 02: "bisimilar by a relation whose every pair also has equal token totals".
unfoldable pub FinerBisimilar {ℓ} : Card → Field → Field → Type (ℓ + 1)
FinerBisimilar c a b = (R : Field → Field → Type ℓ) × Bisimulation (On c) R × ((x y : Field) → R x y → total c x ≡ total c y) × R a b

-- "alike", in a sense.
abbrev pub BisimilarIn {ℓ} : Sense → Card → Field → Field → Type (ℓ + 1)
BisimilarIn plain c a b = Bisimilar {ℓ} (On c) a b
BisimilarIn finer c a b = FinerBisimilar {ℓ} c a b

-- A bisimulation as document 000 has it: a step is a read of some code, and a bisimulation answers every step of either side.
pub record Step (L : Line → Type 0) (a : Field) (c : ℕ) (x : Field) : Type 0 where
  pub line : Line
  pub on : L line
  pub can : 0 < a line.kind
  pub reads : line.code ≡ c
  pub goes : fire line a ≡ x

abbrev pub StepBisimulation {ℓ} : (Line → Type 0) → (Field → Field → Type ℓ) → Type ℓ
StepBisimulation L R =
    (a b : Field) → R a b
    → ((c : ℕ) (x : Field) → Step L a c x → (y : Field) × Step L b c y × R x y) × ((c : ℕ) (y : Field) → Step L b c y → (x : Field) × Step L a c x × R x y)
