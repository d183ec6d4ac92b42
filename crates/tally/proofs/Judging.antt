-- Laws of fields that look unlike.
use mathlib.Core.Bool.{true, false}
use mathlib.Core.List.{List}
use mathlib.Core.Path.{◌≡◌, sym, ap, fun_ext, ◌∙◌}
use Prim.Native.Nat.{ℕ, ◌≤◌, ◌<◌}
use native.Mathlib.Decide.{dec_lt}
use native.Mathlib.Omega.{arith}
use Rattle.model.specs.Field.{Field}
use Rattle.model.specs.Sheet.{kind_count, field_count, field_of}
use Rattle.second_reader.proofs.Counts.{field_past}
use Rattle.tally.specs.Judged.{Tests, Unlike}

-- Whether two fields of a sheet look unlike.
module _ (s : List ℕ) (first second : ℕ) where
  -- They have the same counts of the first n kinds.
  abbrev pub AlikeBelow : ℕ → Type 0
  AlikeBelow n = (k : ℕ) → k < n → field_of s first k ≡ field_of s second k

  pub alike_all : (n : ℕ) → kind_count s ≤ n → AlikeBelow n → Tests false (Unlike s first second)
  unfolding Tests
  alike_all n h p u = u.3 (fun_ext (λ k. go k (dec_lt k n)))
    where
      go : (k : ℕ) → Dec (k < n) → field_of s first k ≡ field_of s second k
      go k (yes l) = p k l
      go k (no l) = field_past s first k (omega arith) ∙ sym (field_past s second k (omega arith))

  pub unlike_one : kind_count s ≤ 32 → first < field_count s → second < field_count s → (k : ℕ) {x y : ℕ} → x ≡ field_of s first k → y ≡ field_of s second k → ¬ (x ≡ y) → Tests true (Unlike s first second)
  unfolding Tests
  unlike_one h f g k d e n = (h, f, g, λ p. n (d ∙ ap (λ (a : Field). a k) p ∙ sym e))

  pub none_unlike : (kind_count s ≤ 32 → first < field_count s → second < field_count s → ⊥) → Tests false (Unlike s first second)
  unfolding Tests
  none_unlike n u = n u.0 u.1 u.2
