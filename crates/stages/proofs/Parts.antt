-- What the reached part of a sheet settles to is what the sheet settles to.
use mathlib.Core.List.{List}
use mathlib.Core.Path.{◌≡◌, ◌∙◌, ap, subst}
use Prim.Native.Nat.{ℕ, suc, ◌<◌}
use native.Mathlib.Omega.{arith}
use lib.ListN.{take}
use Rattle.model.specs.Sense.{Sense}
use Rattle.model.specs.Field.{Field}
use Rattle.model.specs.Card as model
use Rattle.model.specs.Base.{stage_row_in, stage_since_in, settled_stage_in}
use Rattle.model.specs.Sheet.{kind_count, card_of}
use Rattle.model.specs.Refusal.{clear, first_of, sheet_checks}
use Rattle.theory.proofs.Part.{parts}
use Rattle.sheet.specs.declared.reader.Card.{Card}
use Rattle.part_sheet.specs.Part.{size_of, IsPart}
use Rattle.part_sheet.proofs.Laws.{part_kinds}
use Rattle.stages.specs.Kept.{KeptTo}
use Rattle.stages.specs.Settle.{IsSettled}
use Rattle.stages.specs.declared.settle.Settled.{Settled}

module _ (sense : Sense) {s : List ℕ} {d : Card} {t : List ℕ} (clean : first_of (sheet_checks s) ≡ clear) (P : IsPart s d t) where
  abbrev u : List ℕ
  u = take (size_of d) t

  -- The settled stage and the rows of every stage are those of the sheet.
  same_stage : settled_stage_in sense (card_of u) ≡ settled_stage_in sense (card_of s)
  same_stage = ap (λ (c : model.Card). settled_stage_in sense c) P.card_is ∙ (parts s clean).stage sense

  same_row : (q k : ℕ) → stage_row_in sense (card_of u) q k ≡ stage_row_in sense (card_of s) q k
  same_row q k = ap (λ (c : model.Card). stage_row_in sense c q k) P.card_is ∙ ap (λ (f : ℕ → Field). f k) ((parts s clean).stage_rows sense q)

  under : (k : ℕ) → k < kind_count s → k < kind_count u
  under k h = omega (arith, part_kinds P)

  same_mark : (q k : ℕ) → stage_since_in sense (card_of u) q k ≡ stage_since_in sense (card_of s) q k
  same_mark q k = ap (λ (c : model.Card). stage_since_in sense c q k) P.card_is ∙ ap (λ (f : ℕ → ℕ). f k) ((parts s clean).stage_sinces sense q)

  kept_part : {q : ℕ} {since rows : List ℕ} → KeptTo sense u q since rows → KeptTo sense s q since rows
  kept_part {q} K = record {
    marks = λ k h l. K.marks k (under k h) l ∙ same_mark q k;
    none = K.none;
    before = λ k q h e. K.before k q (under k h) e ∙ same_row (suc q) k;
  }

  settled : {r : Settled} → IsSettled sense u r → IsSettled sense s r
  settled {r} S = record {
    stage_is = S.stage_is ∙ same_stage;
    base_is = λ k h. S.base_is k (under k h) ∙ same_row (settled_stage_in sense (card_of u)) k ∙ ap (λ q. stage_row_in sense (card_of s) q k) same_stage;
    kept_is = subst (λ q. KeptTo sense s q r.base.since r.before) same_stage (kept_part S.kept_is);
  }

  pub part_settled : {r : Settled} {n : ℕ} → n ≡ size_of d → IsSettled sense (take n t) r → IsSettled sense s r
  part_settled e S = settled (rw e at S)
