-- The sentences on stages, with w the kinds' norms.
use Rattle.std.specs.Prelude.{◌↔◌, ◌≡◌, ℕ, suc, ◌<◌}
use Rattle.model.specs.Field.{Field}
use Rattle.model.specs.Card.{Line, Card, On}
use Rattle.model.specs.Norm.{norm_by}
use Rattle.model.specs.Sense.{Sense, plain, finer, total}
use Rattle.theory.specs.Expansion.{Expands}
use Rattle.theory.specs.Terms.{OnReached, OfKinds}

-- "reads that lower the norm": the line leaves less than the norm of its kind (Meanings, `lowers_iff`).
abbrev pub Lowers : Card → (ℕ → ℕ) → Line → Type 0
Lowers c w l = OnReached c l × (norm_by c w l.left < w l.kind)

-- What related fields must share. "Stage 0 relates fields of equal norm"; in the finer sense "stage 0 relates equal norm and equal total".
abbrev pub Start : Sense → Card → (ℕ → ℕ) → Field → Field → Type 0
Start plain c w a b = norm_by c w a ≡ norm_by c w b
Start finer c w a b = (norm_by c w a ≡ norm_by c w b) × (total c a ≡ total c b)

-- The sentences on stages, one by one, of "the fields that the stages .. speak of". They leave one relation for each stage.
pub record StagesIn (m : Sense) (c : Card) (w : ℕ → ℕ) (S : ℕ → Field → Field → Type 0) : Type 0 where
  pub start : (a b : Field) → OfKinds c a → OfKinds c b → S 0 a b ↔ Start m c w a b
  -- "Stage 1 holds for a pair in stage 0 that satisfies norm-reducing expansion in stage 1."
  pub one : (a b : Field) → OfKinds c a → OfKinds c b → S 1 a b ↔ (S 0 a b × Expands (Lowers c w) (S 1) a b)
  -- "Stage s + 1 holds for a pair in stage s that satisfies expansion in stage s and norm-reducing expansion in stage s + 1."
  pub next : (s : ℕ) (a b : Field) → OfKinds c a → OfKinds c b
      → S (suc (suc s)) a b ↔ (S (suc s) a b × Expands (On c) (S (suc s)) a b × Expands (Lowers c w) (S (suc (suc s))) a b)
