-- Where two fields part: at stage 0 by what the sense asks for, at every later stage by their forms, from the settled stage down.
use mathlib.Core.Bool.{Bool, true, false, not}
use mathlib.Core.List.{List}
use mathlib.Core.Logic.{◌↔◌, ◌⊎◌, inl, inr}
use mathlib.Core.Path.{◌≡◌, sym, ◌∙◌}
use Prim.Native.Nat.{ℕ, zero, suc, ◌+◌, ◌-◌, ◌^◌, ◌≤◌, ◌<◌}
use native.Mathlib.Decide.{dec_lt}
use native.Mathlib.Omega.{arith}
use lib.Dec.{T}
use Rattle.model.specs.Sense.{Sense}
use Rattle.model.specs.Finite.{least_from}
use Rattle.model.specs.Field.{Field, at}
use Rattle.model.specs.Norm.{kind_norm}
use Rattle.model.specs.Stage.{stage_in}
use Rattle.model.specs.Base.{stage_form_in}
use Rattle.theory.specs.Stages.{Start}
use Rattle.theory.specs.Terms.{OfKinds, StageIn}
use Rattle.model.specs.Sheet.{card_of, field_of}
use Rattle.model.specs.Refusal.{Accepted}
use Rattle.theory.proofs.Lists.{least_cases}
use Rattle.theory.proofs.Sheets.{certified, sheet_clear, field_kinds}
use Rattle.tables.proofs.Tables.{at_kind}
use Rattle.rows.proofs.Sizes.{narrow, field_form_limit}
use Rattle.stages.specs.Kept.{form_before}
use Rattle.stages.specs.Parting.{parted_by, FormsPart, LeastPart}
use Rattle.stages.proofs.Keeping.{before_form}
use Rattle.stages.proofs.Verdict.{stage_start, stage_form_is, stage_earlier}

-- The first of m numbers that pass a test.
module _ (p : ℕ → Bool) (m : ℕ) where
  abbrev Cases : ℕ → Type 0
  Cases l = ((l ≡ 0 + m) ⊎ ((l < 0 + m) × T (p l))) × (0 ≤ l) × ((k : ℕ) → 0 ≤ k → k < l → ¬ T (p k))

  least_is : (d : ℕ) → d ≤ m → ((k : ℕ) → k < d → ¬ T (p k)) → (d < m → T (p d)) → least_from p 0 m ≡ d
  least_is d h before here = go (least_from p 0 m) (least_cases p 0 m)
    where
      go : (l : ℕ) → Cases l → l ≡ d
      go l x = side (dec_lt l d) (dec_lt d l)
        where
          low : l < d → (l ≡ 0 + m) ⊎ ((l < 0 + m) × T (p l)) → ⊥
          low u (inl e) = omega arith
          low u (inr y) = before l u y.1

          under : d < l → (l ≡ 0 + m) ⊎ ((l < 0 + m) × T (p l)) → d < m
          under v (inl e) = omega arith
          under v (inr y) = omega (arith, y.0)

          side : Dec (l < d) → Dec (d < l) → l ≡ d
          side (yes u) v = absurd (low u x.0)
          side (no u) (yes v) = absurd (x.2 d (omega arith) v (here (under v x.0)))
          side (no u) (no v) = omega arith

  least_before : (k : ℕ) → k < least_from p 0 m → ¬ T (p k)
  least_before k h = (least_cases p 0 m).2 k (omega arith) h

not_tells : (b : Bool) → T (not b) ↔ (¬ T b)
not_tells true = (λ x _. x, λ n. n tt)
not_tells false = (λ _ x. x, λ _. tt)

related : (b : Bool) → ¬ T (not b) → T b
related true n = tt
related false n = absurd (n tt)

module _ (sense : Sense) (s : List ℕ) (ok : Accepted s) (i j : ℕ) where
  abbrev a : Field
  a = field_of s i

  abbrev b : Field
  b = field_of s j

  abbrev test : ℕ → Bool
  test q = not (stage_in sense (card_of s) (kind_norm (card_of s)) q a b)

  kinds : (i : ℕ) → OfKinds (card_of s) (field_of s i)
  kinds i = field_kinds s (sheet_clear s ok) i

  parts : (q : ℕ) → T (test q) ↔ (¬ StageIn sense (card_of s) q a b)
  parts q = not_tells (stage_in sense (card_of s) (kind_norm (card_of s)) q a b)

  forms : (q : ℕ) → StageIn sense (card_of s) (suc q) a b ↔ (stage_form_in sense (card_of s) (suc q) a ≡ stage_form_in sense (card_of s) (suc q) b)
  forms q = stage_form_is sense (card_of s) (certified s ok) a b (kinds i) (kinds j) q

  -- Where they part: every stage before relates them, and that one, if it is one of the stages up to t, does not.
  module _ (t d : ℕ) (parted : d ≡ parted_by sense s t i j) where
    pub parted_related : (q : ℕ) → q < d → StageIn sense (card_of s) q a b
    unfolding parted_by
    parted_related q h = related (stage_in sense (card_of s) (kind_norm (card_of s)) q a b) (least_before test (suc t) q (omega arith))

    pub parted_not : d ≤ t → ¬ StageIn sense (card_of s) d a b
    unfolding parted_by
    parted_not h x = end (least_cases test 0 (suc t)).0
      where
        end : (least_from test 0 (suc t) ≡ 0 + suc t) ⊎ ((least_from test 0 (suc t) < 0 + suc t) × T (test (least_from test 0 (suc t)))) → ⊥
        end (inl e) = omega arith
        end (inr y) = (parts d).0 (rw (← parted) at y.1) x

  -- Stage 0 parts them: they do not share what the sense asks for.
  pub parted_first : (t : ℕ) → ¬ Start sense (card_of s) (kind_norm (card_of s)) a b → 0 ≡ parted_by sense s t i j
  unfolding parted_by
  parted_first t n =
      sym (least_is test (suc t) 0 (omega arith) (λ k h. absurd (omega arith)) (λ _. (parts 0).1 (λ x. n ((stage_start sense (card_of s) (certified s ok) a b (kinds i) (kinds j)).0 x))))

  -- No stage up to q + 1 does: that one relates them, and so each before it.
  pub parted_none : (q : ℕ) → stage_form_in sense (card_of s) (suc q) a ≡ stage_form_in sense (card_of s) (suc q) b → suc q + 1 ≡ parted_by sense s (suc q) i j
  unfolding parted_by
  parted_none q e = sym (least_is test (suc (suc q)) (suc q + 1) (omega arith) before (λ h. absurd (omega arith)))
    where
      before : (k : ℕ) → k < suc q + 1 → ¬ T (test k)
      before k h n = (parts k).0 n (stage_earlier sense (card_of s) (certified s ok) a b (suc q) k (omega arith) ((forms q).1 e))

  -- The least stage at which the forms differ does, where stage 0 relates them.
  pub parted_least : (t r : ℕ) → Start sense (card_of s) (kind_norm (card_of s)) a b → LeastPart sense s t i j r → r ≡ parted_by sense s t i j
  unfolding parted_by
  parted_least t zero e p = absurd (omega (arith, p.from))
  parted_least t (suc q) e p = sym (least_is test (suc t) (suc q) (omega (arith, p.most)) before (λ _. (parts (suc q)).1 (λ x. p.differ ((forms q).0 x))))
    where
      before : (k : ℕ) → k < suc q → ¬ T (test k)
      before zero h n = (parts 0).0 n ((stage_start sense (card_of s) (certified s ok) a b (kinds i) (kinds j)).1 e)
      before (suc k) h n = (parts (suc k)).0 n ((forms k).1 (p.same (suc k) (omega arith) (omega arith)))

  -- Forms that are the same at a stage are the same at every stage before it.
  pub same_before : (t : ℕ) → 1 ≤ t → stage_form_in sense (card_of s) t a ≡ stage_form_in sense (card_of s) t b → (q : ℕ) → 1 ≤ q → q ≤ t → stage_form_in sense (card_of s) q a ≡ stage_form_in sense (card_of s) q b
  same_before zero h e q u l = absurd (omega arith)
  same_before (suc t) h e zero u l = absurd (omega arith)
  same_before (suc t) h e (suc q) u l = (forms q).0 (stage_earlier sense (card_of s) (certified s ok) a b (suc t) (suc q) (omega arith) ((forms t).1 e))

-- From a stage down to the one before it.
module _ {sense : Sense} {s : List ℕ} {i j : ℕ} {since rows first second : List ℕ} where
  -- The forms there are found.
  pub forms_before : (t : ℕ) → 1 < t → FormsPart sense s t i j since rows first second
      → (form_before since rows t (at first) ≡ stage_form_in sense (card_of s) (t - 1) (field_of s i)) × (form_before since rows t (at second) ≡ stage_form_in sense (card_of s) (t - 1) (field_of s j))
  forms_before zero h p = absurd (omega arith)
  forms_before (suc zero) h p = absurd (omega arith)
  forms_before (suc (suc q)) h p =
      let z : suc (suc q) - 1 ≡ suc q = omega arith in
      (rw (z, p.first_is) (lower (field_of s i) (kinds sense s p.accepted i j i)), rw (z, p.second_is) (lower (field_of s j) (kinds sense s p.accepted i j j)))
    where
      lower : (a : Field) → OfKinds (card_of s) a → form_before since rows (suc (suc q)) (stage_form_in sense (card_of s) (suc (suc q)) a) ≡ stage_form_in sense (card_of s) (suc q) a
      lower = before_form sense s p.accepted p.kept.0 p.kept.2 q p.kept.1 p.few

  -- They fit 64 bits.
  pub forms_fit : (t : ℕ) → 1 < t → FormsPart sense s t i j since rows first second
      → ((k : ℕ) → form_before since rows t (at first) k < 2 ^ 64) × ((k : ℕ) → form_before since rows t (at second) k < 2 ^ 64)
  forms_fit zero h p = absurd (omega arith)
  forms_fit (suc zero) h p = absurd (omega arith)
  forms_fit (suc (suc q)) h p =
      let z : suc (suc q) - 1 ≡ suc q = omega arith in
      let f = rw z at (forms_before (suc (suc q)) h p) in (
        λ k. omega (arith, at_kind f.0 k, field_form_limit sense s p.accepted q p.bytes i k, narrow.0),
        λ k. omega (arith, at_kind f.1 k, field_form_limit sense s p.accepted q p.bytes j k, narrow.0),
      )

  module _ (t : ℕ) (h : 1 < t) (p : FormsPart sense s t i j since rows first second) (one other : List ℕ)
      (e : at one ≡ form_before since rows t (at first)) (d : at other ≡ form_before since rows t (at second)) where
    -- Where they differ, the least stage at which they do is to be sought further down.
    pub part_before : ¬ (at one ≡ at other) → FormsPart sense s (t - 1) i j since rows one other
    part_before n =
        let f = forms_before t h p in
        record {
          accepted = p.accepted;
          bytes = p.bytes;
          few = p.few;
          kept = (p.kept.0, omega (arith, p.kept.1), p.kept.2);
          first_is = e ∙ f.0;
          second_is = d ∙ f.1;
          differ = λ x. n (e ∙ f.0 ∙ x ∙ sym f.1 ∙ sym d);
        }

    -- Where they are the same, this stage is the least.
    pub part_here : (top : ℕ) → t ≤ top → at one ≡ at other → LeastPart sense s top i j t
    part_here top l x =
        let f = forms_before t h p in
        record {
          from = omega arith;
          most = l;
          differ = p.differ;
          same = λ q u v. same_before sense s p.accepted i j (t - 1) (omega arith) (sym f.0 ∙ sym e ∙ x ∙ d ∙ f.1) q u (omega arith);
        }

  -- Where the forms differ at stage 1, before which there is none, it is the least stage at which they do.
  pub part_first : (top : ℕ) → 1 ≤ top → FormsPart sense s 1 i j since rows first second → LeastPart sense s top i j 1
  part_first top l p = record { from = omega arith; most = l; differ = p.differ; same = λ q h u. absurd (omega arith) }
