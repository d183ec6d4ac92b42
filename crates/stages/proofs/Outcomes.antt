-- What Settle, Compare and Prime form answer, from the rows of the settled stage and from where the fields part.
use mathlib.Core.List.{List}
use mathlib.Core.Path.{◌≡◌, refl, sym, ◌∙◌, ap}
use Prim.Native.Nat.{ℕ, zero, suc, ◌+◌, ◌≤◌, ◌<◌}
use native.Mathlib.Omega.{arith}
use Rattle.model.specs.Sense.{Sense}
use Rattle.model.specs.Finite.{list_from}
use Rattle.model.specs.Field.{Field, at}
use Rattle.model.specs.Limits.{most_kinds}
use Rattle.model.specs.Norm.{kind_norm}
use Rattle.model.specs.Base.{rounds_at, settled_stage_in, settled_form_in, since_in}
use Rattle.model.specs.Sheet.{kind_count, field_count, card_of, field_of}
use Rattle.model.specs.Refusal.{Accepted}
use Rattle.theory.specs.Stages.{Start}
use Rattle.theory.specs.Widths.{Bytes}
use Rattle.model.specs.Answer.{given, same, different, compare_in, prime_form_in}
use Rattle.theory.proofs.Settling.{sheet_settles}
use Rattle.tables.specs.Table.{form_in}
use Rattle.rows.specs.Stage.{BaseAt}
use Rattle.stages.specs.Settle.{IsSettled}
use Rattle.stages.specs.Parting.{parted_by, FieldsFit, FormsPart, LeastPart}
use Rattle.stages.specs.declared.settle.Settled.{Settled}
use Rattle.rows.proofs.StageRows.{base_form}
use Rattle.stages.proofs.Parted.{parted_related, parted_not, parted_none, parted_least}
use Rattle.stages.proofs.Fields.{fields_fit}
use Rattle.stages.proofs.Verdict.{verdict_same, verdict_different}

module _ (sense : Sense) (s : List ℕ) (ok : Accepted s) where
  -- The marks of the settled stage are those of the final base.
  pub settled_marks : {r : Settled} → IsSettled sense s r → (k : ℕ) → k < kind_count s → at r.base.since k ≡ since_in sense (card_of s) k
  settled_marks S k h = S.kept_is.marks k h (sheet_settles sense s ok).from

  -- Where the rows are the settled stage's.
  module _ (rows : List ℕ) (B : BaseAt sense s (settled_stage_in sense (card_of s)) rows) where
    later : (t : ℕ) → 1 ≤ t → (q : ℕ) × (t ≡ suc q)
    later zero h = absurd (omega arith)
    later (suc q) h = (q, refl)

    pub settled_fit : Bytes s → FieldsFit s rows
    settled_fit bytes = fields_fit sense s ok bytes (settled_stage_in sense (card_of s)) rows (sheet_settles sense s ok).from B

    -- The decompositions by them are the prime forms.
    pub settled_form_is : (i : ℕ) → form_in (kind_count s) rows (field_of s i) ≡ settled_form_in sense (card_of s) (field_of s i)
    settled_form_is i =
        let l = later (settled_stage_in sense (card_of s)) (sheet_settles sense s ok).from in
        rw l.1 (base_form sense s ok l.0 rows (rw l.1 at B) (field_of s i))

    pub prime_form_is : (i : ℕ) (xs : List ℕ) → at xs ≡ form_in (kind_count s) rows (field_of s i) → list_from (at xs) 0 (kind_count s) ≡ prime_form_in sense s i
    unfolding prime_form_in
    prime_form_is i xs e = ap (λ (f : Field). list_from f 0 (kind_count s)) (e ∙ settled_form_is i)

  -- Where two fields part, from their forms by the final base.
  module _ (r : Settled) (S : IsSettled sense s r) (i j : ℕ) (one other : List ℕ)
      (e : at one ≡ form_in (kind_count s) r.base.rows (field_of s i)) (d : at other ≡ form_in (kind_count s) r.base.rows (field_of s j)) where
    one_is : at one ≡ settled_form_in sense (card_of s) (field_of s i)
    one_is = e ∙ settled_form_is r.base.rows S.base_is i

    other_is : at other ≡ settled_form_in sense (card_of s) (field_of s j)
    other_is = d ∙ settled_form_is r.base.rows S.base_is j

    pub parted_same : at one ≡ at other → r.stage + 1 ≡ parted_by sense s (settled_stage_in sense (card_of s)) i j
    parted_same x =
        let l = later r.base.rows S.base_is (settled_stage_in sense (card_of s)) (sheet_settles sense s ok).from in
        rw (S.stage_is, l.1) (parted_none sense s ok i j l.0 (rw l.1 at (sym one_is ∙ x ∙ other_is)))

    pub parts : Bytes s → kind_count s ≤ most_kinds → ¬ (at one ≡ at other) → FormsPart sense s r.stage i j r.base.since r.before one other
    parts bytes few n = rw S.stage_is (record {
      accepted = ok;
      bytes = bytes;
      few = few;
      kept = (settled_stage_in sense (card_of s), omega arith, S.kept_is);
      first_is = one_is;
      second_is = other_is;
      differ = λ x. n (one_is ∙ x ∙ sym other_is);
    })

    pub parted_found : Start sense (card_of s) (kind_norm (card_of s)) (field_of s i) (field_of s j) → (x : ℕ) → LeastPart sense s r.stage i j x → x ≡ parted_by sense s (settled_stage_in sense (card_of s)) i j
    parted_found h x p = parted_least sense s ok i j (settled_stage_in sense (card_of s)) x h (rw S.stage_is at p)

  -- The verdict on two fields, from the least stage that parts them.
  module _ (i j : ℕ) (hi : i < field_count s) (hj : j < field_count s) (d : ℕ) (p : d ≡ parted_by sense s (settled_stage_in sense (card_of s)) i j) where
    pub compare_different : d ≤ settled_stage_in sense (card_of s)
        → compare_in sense s i j ≡ given (different d (rounds_at (card_of s) (kind_norm (card_of s)) d (field_of s i) (field_of s j)))
    compare_different h =
        verdict_different sense s ok i j hi hj d h (parted_not sense s ok i j (settled_stage_in sense (card_of s)) d p h) (λ q l. parted_related sense s ok i j (settled_stage_in sense (card_of s)) d p q l)

    pub compare_same : settled_stage_in sense (card_of s) < d → compare_in sense s i j ≡ given same
    compare_same h = verdict_same sense s ok i j hi hj (parted_related sense s ok i j (settled_stage_in sense (card_of s)) d p (settled_stage_in sense (card_of s)) h)
