-- The tables of lines, rows and forms of an accepted sheet: what they tell of its lines and of a stage.
use mathlib.Core.List.{List}
use mathlib.Core.Logic.{◌↔◌}
use mathlib.Core.Path.{◌≡◌, refl, sym, ap, ◌∙◌, subst, fun_ext}
use Prim.Native.Nat.{ℕ, zero, suc, ◌^◌, ◌<◌}
use native.Mathlib.Decide.{ℕ_discrete}
use native.Mathlib.Omega.{arith}
use lib.ListN.{length, replicate}
use Rattle.model.specs.Sense.{Sense}
use Rattle.model.specs.Field.{Field, unit, at}
use Rattle.model.specs.Base.{stage_row_in, stage_form_in}
use Rattle.model.specs.Refusal.{Accepted}
use Rattle.model.specs.Sheet.{kind_count, line_count, line_of, card_of}
use Rattle.theory.proofs.Sheets.{certified}
use Rattle.sheet.specs.declared.reader.Card.{Card}
use Rattle.sheet.specs.Reader.{Reads, header_of}
use Rattle.sheet.proofs.Laws.{kinds_are, kinds_most, lines_are, lines_most, kind_under}
use Rattle.tables.specs.Table.{Under, row_in, Atoms, form_in}
use Rattle.tables.specs.Lines.{lines_in, kind_in, code_in, LineTable, LoweringIn}
use Rattle.tables.specs.Match.{Bounds, TellsMatch, MatchTables, MatchIn, UsableIn}
use Rattle.tables.specs.Class.{MayUse, AlikeIn}
use Rattle.rows.specs.Stage.{left_form, line_kind, LowersAt, UsableAt, LinesMatch, Classes, BoundsAt, AlikeAt, BaseAt, FormsAt, LinesAre}
use Rattle.rows.specs.Forms.{OthersKept, LoweringForms, AllForms}
use Rattle.rows.specs.StageRows.{RowsBefore, RowsFound}
use Rattle.tables.proofs.Tables.{at_kind, zero_row}
use Rattle.tables.proofs.Matching.{match_agrees, tells_agrees, bounds_agrees}
use Rattle.rows.proofs.Forms.{row_own, form_table, atom_stays}

-- The table of the lines is the sheet's.
module _ {s lines : List ℕ} (L : LinesAre s lines) where
  pub lowers_at : (j : ℕ) → LoweringIn lines j ↔ LowersAt s j
  lowers_at j = (
    (λ w. let i : j < line_count s = omega (arith, w.0, L.long) in (L.lowers_is j i).0 w.1),
    (λ w. (omega (arith, w.0, L.long), (L.lowers_is j w.0).1 w)),
  )

  pub usable_at : (f : Field) (j : ℕ) → UsableIn lines f j ↔ UsableAt s f j
  usable_at f j = (
    (λ u. let w = (lowers_at j).0 u.0 in (w, rw (← L.kind_is j w.0) u.1)),
    (λ u. ((lowers_at j).1 u.0, rw (L.kind_is j u.0.0) u.1)),
  )

  -- The classes that a field may use.
  uses_at : (classes : List ℕ) (f : Field) (x : ℕ) → MayUse (kind_in lines) (at classes) f (lines_in lines) x ↔ MayUse (line_kind s) (at classes) f (line_count s) x
  uses_at classes f x = (
    (λ w. let h : w.0 < line_count s = omega (arith, w.1, L.long) in (w.0, h, rw (← L.kind_is w.0 h) w.2, w.3)),
    (λ w. (w.0, omega (arith, w.1, L.long), rw (L.kind_is w.0 w.1) w.2, w.3)),
  )

  pub alike_at : (classes : List ℕ) (f g : Field) → AlikeIn lines classes f g ↔ AlikeAt s classes f g
  alike_at classes f g = (
    (λ h x. ((λ u. (uses_at classes g x).0 ((h x).0 ((uses_at classes f x).1 u))), (λ u. (uses_at classes f x).0 ((h x).1 ((uses_at classes g x).1 u))))),
    (λ h x. ((λ u. (uses_at classes g x).1 ((h x).0 ((uses_at classes f x).0 u))), (λ u. (uses_at classes f x).1 ((h x).1 ((uses_at classes g x).0 u))))),
  )

  -- It is whole, and so are the tables with it.
  pub lines_whole : {c : Card} → Reads s c → LineTable lines
  lines_whole R =
      record {
        few = omega (arith, L.long, lines_are R, lines_most R);
        kinds_under = λ j h.
            let i : j < line_count s = omega (arith, L.long) in
            rw (L.kind_is j i) (omega (arith, kind_under R j (omega (arith, lines_are R)), kinds_most R));
      }

  pub tables_whole : {c : Card} {rows forms : List ℕ} → Reads s c → length rows ≡ 1024 → length forms ≡ 8192 → Under (2 ^ 63) forms → MatchTables lines rows forms
  tables_whole R r f u = record { whole = lines_whole R; rows_long = r; forms_long = f; small = u }

-- Forms by the rows of a stage's base are the stage's.
module _ (sense : Sense) (s : List ℕ) (ok : Accepted s) (p : ℕ) (previous : List ℕ) (B : BaseAt sense s (suc p) previous) (b : Field) where
  pub base_form : form_in (kind_count s) previous b ≡ stage_form_in sense (card_of s) (suc p) b
  unfolding form_in card_of
  base_form = fun_ext (form_table sense (card_of s) (certified s ok) p (row_in previous) b (λ k h _. B k h))

pub forms_at : (sense : Sense) (s : List ℕ) → Accepted s → (p : ℕ) (rows forms : List ℕ) → BaseAt sense s (suc p) rows → AllForms s rows forms → FormsAt sense s (suc p) forms
forms_at sense s ok p rows forms B all j h = all.forms_are j h ∙ base_form sense s ok p rows B (line_of s j).left

-- The forms of the lowering lines at the stage are those by its rows.
pub lowering_forms : {sense : Sense} {s lines : List ℕ} → LinesAre s lines → Accepted s → (p : ℕ) {rows forms : List ℕ} → RowsFound sense s (suc p) rows forms → LoweringForms s rows lines forms
lowering_forms {sense} {s} L ok p {rows} found j h a = found.forms_are j ((L.lowers_is j h).0 a) ∙ sym (base_form sense s ok p rows found.base_is (line_of s j).left)

-- Lines match by the tables of a stage just when they match at the stage: so the numbers that tell the one tell the other, and bounds for the one are bounds for the other.
module _ (sense : Sense) {s lines : List ℕ} (L : LinesAre s lines) {c : Card} (R : Reads s c) (ok : Accepted s) (q : ℕ) {rows forms : List ℕ} (B : BaseAt sense s (suc q) rows) (F : AllForms s rows forms) where
  pub match_at : (i j : ℕ) → i < line_count s → j < line_count s → MatchIn lines rows forms i j ↔ LinesMatch sense s q i j
  match_at i j hi hj =
      match_agrees (kind_in lines) (code_in lines) (row_in rows) (row_in forms) (line_kind s) (λ x. (line_of s x).code) (stage_row_in sense (card_of s) (suc q)) (λ x. left_form sense (card_of s) q (line_of s x))
      (record { codes = L.code_is i hi; rows = row i hi; forms = forms_at sense s ok q rows forms B F i hi })
      (record { codes = L.code_is j hj; rows = row j hj; forms = forms_at sense s ok q rows forms B F j hj })
    where
      row : (x : ℕ) → x < line_count s → row_in rows (kind_in lines x) ≡ stage_row_in sense (card_of s) (suc q) (line_kind s x)
      row x h = rw (L.kind_is x h) (B (line_kind s x) (omega (arith, kind_under R x (omega (arith, lines_are R)), kinds_are R)))

  pub classes_at : (numbers : List ℕ) → TellsMatch (MatchIn lines rows forms) (lines_in lines) numbers → Classes sense s q numbers
  classes_at numbers t = tells_agrees match_at numbers (rw L.long at t)

  pub bounds_at : (bounds : List ℕ) → Bounds (MatchIn lines rows forms) (lines_in lines) bounds → BoundsAt sense s q bounds
  bounds_at bounds b = bounds_agrees match_at bounds (rw L.long at b)

  pub bounds_in : (bounds : List ℕ) → BoundsAt sense s q bounds → Bounds (MatchIn lines rows forms) (lines_in lines) bounds
  bounds_in bounds b = rw L.long (bounds_agrees (λ i j hi hj. let m = match_at i j hi hj in (m.1, m.0)) bounds b)

-- A kind whose own count in its row is 1 is an atom.
pub base_atoms : (sense : Sense) (s : List ℕ) → Accepted s → (p : ℕ) (rows : List ℕ) → BaseAt sense s (suc p) rows → Atoms rows (kind_count s)
base_atoms sense s ok p rows B k h e =
    let i = B k h in
    i ∙ (row_own sense (card_of s) (certified s ok) p k).0 (ap (λ (g : Field). g k) (sym i) ∙ e)

-- It stays so where the stage's row of a kind is set.
pub atoms_more : (sense : Sense) (s : List ℕ) → Accepted s → (p k : ℕ) (rows new : List ℕ) → k < kind_count s → Atoms rows (kind_count s) → row_in new k ≡ stage_row_in sense (card_of s) (suc p) k
    → OthersKept k rows new → Atoms new (kind_count s)
atoms_more sense s ok p k rows new kind atoms row others j h = go (ℕ_discrete j k)
  where
    go : Dec (j ≡ k) → row_in new j j ≡ 1 → row_in new j ≡ unit j
    go (yes e) = rw (e, row) (row_own sense (card_of s) (certified s ok) p k).0
    go (no e) = rw (others j e) (atoms j h)

-- An atom of the stage before stays one.
pub atom_kept : (sense : Sense) (s : List ℕ) → Accepted s → (k : ℕ) → k < kind_count s → (t : ℕ) (previous : List ℕ) → RowsBefore sense s t previous → row_in previous k k ≡ 1
    → unit k ≡ stage_row_in sense (card_of s) (suc t) k
atom_kept sense s ok k h zero previous f e = absurd (f.no_atom refl k e)
atom_kept sense s ok k h (suc p) previous f e =
    let B = f.follows p refl in
    sym (atom_stays sense (card_of s) (certified s ok) p k (sym (B k h) ∙ base_atoms sense s ok p previous B k h e))

-- A card that was read is the header's.
pub reads_header : {s : List ℕ} {c : Card} → Reads s c → Reads s (header_of s)
reads_header {s} R = subst (λ (x : Card). Reads s x) R.header R

-- Before stage 1 the rows are zeros.
pub rows_first : (sense : Sense) (s : List ℕ) (n : ℕ) → RowsBefore sense s 0 (replicate n 0)
rows_first sense s n = record { follows = λ p e. absurd (omega arith); no_atom = λ _ k e. omega (arith, at_kind (zero_row n k) k, e) }

-- The rows of a stage are those before the next.
pub rows_next : (sense : Sense) (s : List ℕ) (q : ℕ) (previous : List ℕ) → BaseAt sense s (suc q) previous → RowsBefore sense s (suc q) previous
rows_next sense s q previous B =
    record { follows = λ p e. let z : q ≡ p = omega arith in subst (λ (x : ℕ). BaseAt sense s (suc x) previous) z B; no_atom = λ e. absurd (omega arith) }
