-- The loop over the stages: what is held at each, and that none before the present one is settled.
use mathlib.Core.List.{List}
use mathlib.Core.Logic.{◌↔◌}
use mathlib.Core.Path.{◌≡◌, subst}
use Prim.Native.Nat.{ℕ, suc, ◌≤◌, ◌<◌}
use native.Mathlib.Decide.{dec_lt}
use native.Mathlib.Omega.{arith}
use lib.ListN.{length, replicate}
use Rattle.model.specs.Sense.{Sense}
use Rattle.model.specs.Field.{unit}
use Rattle.model.specs.Base.{settled_stage_in, stage_row_in}
use Rattle.model.specs.Limits.{most_kinds, most_lines}
use Rattle.model.specs.Refusal.{Accepted}
use Rattle.model.specs.Sheet.{kind_count, card_of}
use Rattle.theory.specs.Terms.{SettledIn}
use Rattle.sheet.specs.Reader.{Reads}
use Rattle.model.specs.Card.{Reached}
use Rattle.theory.proofs.Sheets.{under_kinds}
use Rattle.sheet.specs.declared.reader.Card.{Card}
use Rattle.norms.specs.Norms.{Accepts}
use Rattle.norms.proofs.Laws.{norm_positive, norm_reached}
use Rattle.sheet.proofs.Laws.{kinds_are, kinds_most}
use Rattle.tables.specs.Table.{row_in, Atoms}
use Rattle.tables.specs.Class.{RowsExpand}
use Rattle.tables.proofs.Tables.{zero_counts, zero_row}
use Rattle.rows.specs.Stage.{BaseAt, Classes, BoundsAt, AlikeAt, LinesAre}
use Rattle.rows.specs.Forms.{FormTable}
use Rattle.rows.specs.StageRows.{StageGiven}
use Rattle.rows.proofs.Classes.{bounds_first, bounds_next}
use Rattle.rows.proofs.StageRows.{alike_at, base_atoms, reads_header, rows_first, rows_next}
use Rattle.stages.specs.Kept.{KeptTo}
use Rattle.stages.specs.Settle.{AtStage, IsSettled}
use Rattle.stages.proofs.Settled.{settled_after, settled_most, settled_first, settled_classes}

-- Of the stages 1 to t none is settled.
abbrev pub Unsettled : Sense → List ℕ → ℕ → Type 0
Unsettled sense s t = (p : ℕ) → suc p ≤ t → ¬ SettledIn sense (card_of s) (suc p)

pub unsettled_start : (sense : Sense) (s : List ℕ) → Unsettled sense s 0
unsettled_start sense s p h = absurd (omega arith)

module _ (sense : Sense) (s : List ℕ) (ok : Accepted s) {t : ℕ} (u : Unsettled sense s t) where
  -- One stage more: it is at most the settled stage, and that at most n.
  pub unsettled_more : ¬ SettledIn sense (card_of s) (suc t) → Unsettled sense s (suc t)
  unsettled_more n p h = go (dec_lt p t)
    where
      go : Dec (p < t) → ¬ SettledIn sense (card_of s) (suc p)
      go (yes l) = u p l
      go (no l) = let z : p ≡ t = omega arith in rw z n

  pub unsettled_next : suc t ≤ kind_count s
  unsettled_next = omega (arith, settled_after sense s ok t u, settled_most sense s ok)

  pub unsettled_end : SettledIn sense (card_of s) (suc t) → suc t ≡ settled_stage_in sense (card_of s)
  unsettled_end x = settled_first sense s ok t x u

pub few_kinds : {s : List ℕ} {c : Card} → Reads s c → kind_count s ≤ most_kinds
few_kinds R = omega (arith, kinds_are R, kinds_most R)

-- Before stage 1 all rows and all classes are 0.
pub held_start : (sense : Sense) (s : List ℕ) → AtStage sense s 0 (replicate 1024 0) (replicate most_lines 0)
held_start sense s = record {
  rows_are = rows_first sense s 1024;
  no_rows = λ _ k. zero_row 1024 k;
  classes_tell = λ q e. absurd (omega arith);
  one_class = λ _. zero_counts most_lines;
  bounds = bounds_first sense s 0 most_lines;
}

-- What is held is what the rows of the next stage are sought from.
pub held_given : {sense : Sense} {s lines rows classes : List ℕ} {t : ℕ} {c : Card} → Reads s c → Accepted s → LinesAre s lines → AtStage sense s t rows classes → StageGiven sense s t lines classes
held_given R ok L H = record { reads = reads_header R; accepted = ok; lines_are = L; follows = H.classes_tell; one_class = H.one_class }

-- The rows of the next stage and the classes by them are held there.
pub held_next : {sense : Sense} {s : List ℕ} → Accepted s → (t : ℕ) (rows classes : List ℕ) → BaseAt sense s (suc t) rows → Classes sense s t classes → BoundsAt sense s t classes → AtStage sense s (suc t) rows classes
held_next {sense} {s} ok t rows classes B K f = record {
  rows_are = rows_next sense s t rows B;
  no_rows = λ e. absurd (omega arith);
  classes_tell = λ q e. let z : q ≡ t = omega arith in rw z K;
  one_class = λ e. absurd (omega arith);
  bounds = bounds_next sense s ok t classes f;
}

-- How far the loop has come: what is held at stage t and kept of the stages up to it, in whole tables, and none of these is settled.
pub record Progress (sense : Sense) (s : List ℕ) (t : ℕ) (forms rows classes since rowsBefore : List ℕ) : Type 0 where
  pub held : AtStage sense s t rows classes
  pub unsettled : Unsettled sense s t
  pub table : FormTable forms
  pub kept : KeptTo sense s t since rowsBefore
  pub rows_long : length rows ≡ 1024
  pub classes_long : length classes ≡ most_lines
  pub since_long : length since ≡ most_kinds
  pub before_long : length rowsBefore ≡ 1024

-- The rows of a stage from 1 up and the classes by them tell whether it is settled.
module _ (sense : Sense) {s lines norms : List ℕ} {c : Card} (A : Accepts s c norms) (L : LinesAre s lines) (q : ℕ) (rows classes : List ℕ) (B : BaseAt sense s (suc q) rows) where
  R : Reads s c
  R = A.reads

  ok : Accepted s
  ok = A.accepted

  -- Its kinds whose own count is 1 are atoms.
  pub held_atoms : Atoms rows c.kinds
  held_atoms = rw (kinds_are R) (base_atoms sense s ok q rows B)

  pub held_settled : Classes sense s q classes → RowsExpand lines classes rows norms c.kinds ↔ SettledIn sense (card_of s) (suc q)
  held_settled K = rw (kinds_are R) (
    (λ f. settled.1 (λ k v. let h = under_kinds s k v in rw (B k h) at ((alike_at L classes (unit k) (row_in rows k)).0 (f k h (norm_positive A k v))))),
    (λ y k h p. (alike_at L classes (unit k) (row_in rows k)).1 (rw (B k h) (settled.0 y k (norm_reached A k p)))),
  )
    where
      settled : SettledIn sense (card_of s) (suc q) ↔ ((k : ℕ) → Reached (card_of s) k → AlikeAt s classes (unit k) (stage_row_in sense (card_of s) (suc q) k))
      settled = settled_classes sense s ok q classes K

  -- The settled stage, with its base, its marks and what is kept of the stages.
  pub held_end : Classes sense s q classes → Unsettled sense s q → RowsExpand lines classes rows norms c.kinds → {since rowsBefore : List ℕ} → KeptTo sense s (suc q) since rowsBefore
      → IsSettled sense s (record { base = record { rows = rows; since = since }; stage = suc q; before = rowsBefore })
  held_end K u f {since} {rowsBefore} H =
      let e = unsettled_end sense s ok u ((held_settled K).0 f) in
      record {
        stage_is = e;
        base_is = subst (λ (v : ℕ). BaseAt sense s v rows) e B;
        kept_is = subst (λ (v : ℕ). KeptTo sense s v since rowsBefore) e H;
      }
