-- The verdict of a sense on two fields of a sheet, from stage 0 and from their forms stage by stage.
use mathlib.Core.List.{List}
use mathlib.Core.Logic.{◌↔◌, ◌⊎◌, inl, inr}
use mathlib.Core.Path.{◌≡◌, ◌∙◌, ap}
use Prim.Native.Nat.{ℕ, suc, ◌≤◌, ◌<◌}
use native.Mathlib.Decide.{dec_lt}
use native.Mathlib.Omega.{arith}
use Rattle.model.specs.Sense.{Sense, plain, finer}
use Rattle.model.specs.Field.{Field}
use Rattle.model.specs.Card.{Card, reached_count}
use Rattle.model.specs.Norm.{norm_by, kind_norm}
use Rattle.model.specs.Base.{rounds_at, stage_form_in, settled_stage_in}
use Rattle.theory.specs.Stages.{Start}
use Rattle.theory.specs.Terms.{OfKinds, StageIn}
use Rattle.model.specs.Sheet.{field_count, card_of, field_of}
use Rattle.model.specs.Refusal.{Accepted}
use Rattle.model.specs.Answer.{given, same, different, verdict_in, compare_in}
use Rattle.theory.proofs.Stages.{Stage as Level}
use Rattle.theory.proofs.Consequences.{Parts, stage_down}
use Rattle.theory.proofs.Certified.{Found}
use Rattle.theory.proofs.Senses.{normed_in, tells_in, stages, verdict_cases, same_iff}
use Rattle.theory.proofs.Program.{stage_forms}
use Rattle.theory.proofs.Sheets.{certified}
use Rattle.theory.proofs.Verdicts.{L, field_tidy, compare_is}

-- What related fields share in either sense: their norm.
pub start_norm : (sense : Sense) (c : Card) (w : ℕ → ℕ) (a b : Field) → Start sense c w a b → norm_by c w a ≡ norm_by c w b
start_norm plain c w a b e = e
start_norm finer c w a b e = e.0

module _ (sense : Sense) (c : Card) (F : Found c (kind_norm c)) (a b : Field) where
  -- Stage 0 compares what the sense asks for, and every later stage forms.
  pub stage_start : OfKinds c a → OfKinds c b → StageIn sense c 0 a b ↔ Start sense c (kind_norm c) a b
  stage_start u v = (stages sense c (kind_norm c) F).start a b u v

  pub stage_form_is : OfKinds c a → OfKinds c b → (q : ℕ) → StageIn sense c (suc q) a b ↔ (stage_form_in sense c (suc q) a ≡ stage_form_in sense c (suc q) b)
  stage_form_is u v q = stage_forms sense c (kind_norm c) F q a b u v

  -- A stage relates no pair that an earlier one does not.
  pub stage_earlier : (t d : ℕ) → d ≤ t → StageIn sense c t a b → StageIn sense c d a b
  stage_earlier t d h x =
      (tells_in sense c (kind_norm c) F d a b).test (stage_down (normed_in sense c (kind_norm c) F) t d a b h ((tells_in sense c (kind_norm c) F t a b).fact x))

module _ (sense : Sense) (s : List ℕ) (ok : Accepted s) (i j : ℕ) (hi : i < field_count s) (hj : j < field_count s) where
  abbrev a : Field
  a = field_of s i

  abbrev b : Field
  b = field_of s j

  abbrev w : ℕ → ℕ
  w = kind_norm (card_of s)

  abbrev F : Found (card_of s) (kind_norm (card_of s))
  F = certified s ok

  -- A pair that the settled stage relates is same.
  pub verdict_same : StageIn sense (card_of s) (settled_stage_in sense (card_of s)) a b → compare_in sense s i j ≡ given same
  verdict_same x =
      let e = same_iff sense (card_of s) w F (settled_stage_in sense (card_of s)) (L sense s ok).most (L sense s ok).settled a b (field_tidy sense s ok i) (field_tidy sense s ok j) in
      compare_is sense s ok i j hi hj ∙ ap given (e.1 ((tells_in sense (card_of s) w F (settled_stage_in sense (card_of s)) a b).fact x))

  -- Otherwise the least stage that does not relate it is the verdict's.
  pub verdict_different : (d : ℕ) → d ≤ settled_stage_in sense (card_of s) → ¬ StageIn sense (card_of s) d a b → ((p : ℕ) → p < d → StageIn sense (card_of s) p a b)
      → compare_in sense s i j ≡ given (different d (rounds_at (card_of s) w d a b))
  verdict_different d h n f =
      compare_is sense s ok i j hi hj
      ∙ ap given (go (verdict_cases sense (card_of s) w F (settled_stage_in sense (card_of s)) (L sense s ok).most (L sense s ok).settled a b (field_tidy sense s ok i) (field_tidy sense s ok j)))
    where
      to : (p : ℕ) → Level (normed_in sense (card_of s) w F) p a b → StageIn sense (card_of s) p a b
      to p x = (tells_in sense (card_of s) w F p a b).test x

      go : ((verdict_in sense (card_of s) w a b ≡ same) × Level (normed_in sense (card_of s) w F) (settled_stage_in sense (card_of s)) a b)
          ⊎ ((d : ℕ) × ((d ≤ reached_count (card_of s)) × (verdict_in sense (card_of s) w a b ≡ different d (rounds_at (card_of s) w d a b)) × Parts (normed_in sense (card_of s) w F) d a b))
          → verdict_in sense (card_of s) w a b ≡ different d (rounds_at (card_of s) w d a b)
      go (inl x) = absurd (n (stage_earlier sense (card_of s) F a b (settled_stage_in sense (card_of s)) d h (to (settled_stage_in sense (card_of s)) x.1)))
      go (inr x) = pick (dec_lt x.0 d) (dec_lt d x.0)
        where
          pick : Dec (x.0 < d) → Dec (d < x.0) → verdict_in sense (card_of s) w a b ≡ different d (rounds_at (card_of s) w d a b)
          pick (yes u) v = absurd (x.1.2.0 ((tells_in sense (card_of s) w F x.0 a b).fact (f x.0 u)))
          pick (no u) (yes v) = absurd (n (to d (x.1.2.1 d v)))
          pick (no u) (no v) = let e : x.0 ≡ d = omega arith in rw e at x.1.1
