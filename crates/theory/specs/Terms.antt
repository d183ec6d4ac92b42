-- Terms of document 01 as types: lines and fields of the reached kinds, g, the order of kinds, a base; in each sense stages, primes, settled.
use Rattle.std.specs.Prelude.{◌⊎◌, ◌≡◌, ℕ, ◌+◌, ◌≤◌, ◌<◌, T}
use Rattle.model.specs.Field.{Field, unit}
use Rattle.model.specs.Card.{Line, Card, Reached, On}
use Rattle.model.specs.Norm.{IsNorm, kind_norm}
use Rattle.model.specs.Sense.{Sense, plain}
use Rattle.model.specs.Stage.{stage_in}
use Rattle.theory.specs.Expansion.{Expands, BisimilarIn}

-- The line is one of the card's, and of a reached kind.
abbrev pub OnReached : Card → Line → Type 0
OnReached c l = On c l × Reached c l.kind

-- A field of the reached kinds: one of "the fields that the stages and the settled stage speak of".
abbrev pub OfKinds : Card → Field → Type 0
OfKinds c a = (k : ℕ) → 0 < a k → Reached c k

-- "g is the greatest of 0 and, over all lines [of reached kinds], the norm left minus the kind's norm."
pub record IsGain (c : Card) (g : ℕ) : Type 0 where
  pub most : (l : Line) → OnReached c l → (x y : ℕ) → IsNorm c l.left x → IsNorm c (unit l.kind) y → x ≤ y + g
  pub reached : (g ≡ 0) ⊎ ((l : Line) × OnReached c l × (x : ℕ) × (y : ℕ) × IsNorm c l.left x × IsNorm c (unit l.kind) y × (x ≡ y + g))

module _ (c : Card) where
  -- "Kinds are ordered by norm, then by number": kind j comes before kind k.
  abbrev pub Earlier : ℕ → ℕ → Type 0
  Earlier j k = (kind_norm c j < kind_norm c k) ⊎ ((kind_norm c j ≡ kind_norm c k) × (j < k))

  -- "a field of earlier kinds"
  abbrev pub Before : ℕ → Field → Type 0
  Before k a = (j : ℕ) → 0 < a j → Reached c j × Earlier j k

  -- "A base at a stage gives each kind the counts of earlier atoms that the stage relates to it; where there are none it gives the
  -- kind itself, an atom."
  pub record BaseOf (R : Field → Field → Type 0) (row : ℕ → Field) : Type 0 where
    pub related : (k : ℕ) → Reached c k → R (unit k) (row k)
    pub counts : (k : ℕ) → Reached c k
        → ((row k ≡ unit k) × ((a : Field) → Before k a → ¬ R (unit k) a)) ⊎ (Before k (row k) × ((j : ℕ) → 0 < row k j → row j ≡ unit j))

-- What goes by the sense of the comparison.
module _ (m : Sense) (c : Card) where
  -- "Stage s": the relation that the test decides.
  abbrev pub StageIn : ℕ → Field → Field → Type 0
  StageIn s a b = T (stage_in m c (kind_norm c) s a b)

  -- "A kind is prime if no field of earlier kinds is bisimilar to it": alike, in the sense.
  abbrev pub PrimeIn {ℓ} : ℕ → Type (ℓ + 1)
  PrimeIn k = Reached c k × ((a : Field) → Before c k a → ¬ BisimilarIn {ℓ} m c (unit k) a)

  -- "every related pair satisfies expansion"
  abbrev pub SettledIn : ℕ → Type 0
  SettledIn s = (a b : Field) → OfKinds c a → OfKinds c b → StageIn s a b → Expands (On c) (StageIn s) a b

-- The same in the sense of document 01.
module _ (c : Card) where
  abbrev pub Stage : ℕ → Field → Field → Type 0
  Stage = StageIn plain c

  abbrev pub Prime {ℓ} : ℕ → Type (ℓ + 1)
  Prime = PrimeIn {ℓ} plain c

  abbrev pub Settled : ℕ → Type 0
  Settled = SettledIn plain c
