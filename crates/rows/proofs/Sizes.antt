-- How large the numbers of a stage grow: candidates keep within the norm limit, forms of fields within their norms.
use mathlib.Core.List.{List}
use Prim.Native.Nat.{ℕ, suc, ◌+◌, ◌^◌, ◌≤◌, ◌<◌}
use native.Mathlib.Bridge.{le_by_compare, IsLe}
use native.Mathlib.Omega.{arith}
use Rattle.model.specs.Sense.{Sense}
use Rattle.model.specs.Field.{Field}
use Rattle.model.specs.Base.{stage_form_in}
use Rattle.model.specs.Sheet.{kind_count, card_of, field_of}
use Rattle.model.specs.Limits.{norm_limit}
use Rattle.model.specs.Refusal.{Accepted}
use Rattle.theory.specs.Widths.{Bytes, most_field_norm}
use Rattle.theory.proofs.Limits.{limit_of}
use Rattle.theory.proofs.Sheets.{certified}
use Rattle.theory.proofs.Widths.{widths}
use Rattle.rows.proofs.Forms.{form_count}
use Rattle.rows.proofs.Candidates.{Product}

-- Sums of a form and a row, and of a form and a candidate, fit 64 bits; rows and candidates fit 32.
pub narrow : (most_field_norm + norm_limit < 2 ^ 64) × (norm_limit < 2 ^ 32)
unfolding IsLe
narrow = (le_by_compare _ _ tt, le_by_compare _ _ tt)

module _ (sense : Sense) (s : List ℕ) (ok : Accepted s) (q : ℕ) where
  -- No count of a candidate passes the norm limit.
  pub product_limit : (k : ℕ) → k < kind_count s → (b : Field) → Product sense (card_of s) q k b → (j : ℕ) → b j ≤ norm_limit
  product_limit k h b P j = omega (arith, P.small j, limit_of s ok k h)

  module _ (bytes : Bytes s) where
    -- No count of the form of a field passes the most norm that a field can have.
    pub field_form_limit : (i j : ℕ) → stage_form_in sense (card_of s) (suc q) (field_of s i) j ≤ most_field_norm
    field_form_limit i j = omega (arith, form_count sense (card_of s) (certified s ok) q (field_of s i) j, (widths s bytes ok).field_norm i)
