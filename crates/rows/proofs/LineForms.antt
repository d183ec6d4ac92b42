-- The forms of what the lines leave: how large they are, and the loops that write them.
-- Assumes nothing.
use mathlib.Core.List.{List}
use mathlib.Core.Path.{◌≡◌, ap, sym, ◌∙◌}
use Prim.Native.Nat.{ℕ, ◌+◌, ◌^◌, ◌≤◌, ◌<◌}
use native.Mathlib.Decide.{ℕ_discrete}
use native.Mathlib.Omega.{arith}
use lib.ListN.{length}
use Rattle.model.specs.Field.{unit, at}
use Rattle.model.specs.Sheet.{kind_count, line_count, line_of}
use Rattle.theory.proofs.Field.{unit_same}
use Rattle.theory.proofs.Base.{unit_some}
use Rattle.sheet.specs.Reader.{Reads, line_counts}
use Rattle.sheet.specs.declared.reader.Card.{Card}
use Rattle.sheet.proofs.Laws.{Bytes, kinds_are, kinds_most, lines_are, left_under}
use Rattle.norms.proofs.Laws.{part_left}
use Rattle.tables.specs.Table.{Under, row_in, form_in}
use Rattle.tables.specs.Lines.{lines_in, kind_in, LowersIn}
use Rattle.tables.specs.Match.{Lists, UsableIn}
use Rattle.rows.specs.Forms.{RowSet, LineForm, LoweringForms, AllForms, ListForms, KindForms}
use Rattle.rows.proofs.TableRows.{form_small}

-- What a line leaves has small forms by any rows of 32-bit counts.
pub left_form_small : {s : List ℕ} {c : Card} → Reads s c → Bytes s → (rows : List ℕ) → Under (2 ^ 32) rows → (j x : ℕ)
    → form_in (kind_count s) rows (line_of s j).left x < 2 ^ 63
left_form_small {s} {c} R bytes rows u j x =
    form_small (kind_count s) rows (line_of s j).left (omega (arith, kinds_are R, kinds_most R)) u (left_under s j bytes) x

-- The form of the part that holds a line's counts is the form of what the line leaves.
pub part_form : {s : List ℕ} {c : Card} → Reads s c → (j : ℕ) (xs : List ℕ) → xs ≡ line_counts s j → (rows : List ℕ)
    → form_in (length xs) rows (at xs) ≡ form_in (kind_count s) rows (line_of s j).left
part_form {s} R j xs part rows =
    part_left R j xs part (λ n a. form_in n rows a) ∙ ap (λ (n : ℕ). form_in n rows (line_of s j).left) (kinds_are R)

-- The forms of the lines below j, and of the lines that lower the norm, are written.
pub record Formed (s rows lines old forms : List ℕ) (j : ℕ) : Type 0 where
  pub kept : length forms ≡ length old
  pub small : Under (2 ^ 63) forms
  pub lowering : LoweringForms s rows lines forms
  pub done : (i : ℕ) → i < j → LineForm s rows forms i

module _ {s rows lines old forms : List ℕ} {j : ℕ} (h : Formed s rows lines old forms j) where
  pub formed_skip : j < line_count s → LowersIn lines j → Formed s rows lines old forms (j + 1)
  formed_skip b a = record { kept = h.kept; small = h.small; lowering = h.lowering; done = λ i l. go i l (ℕ_discrete i j) }
    where
      go : (i : ℕ) → i < j + 1 → Dec (i ≡ j) → LineForm s rows forms i
      go i l (yes p) = rw p (h.lowering j b a)
      go i l (no p) = h.done i (omega arith)

  pub formed_more : {new : List ℕ} → RowSet (form_in (kind_count s) rows (line_of s j).left) j forms new → length new ≡ length forms → Under (2 ^ 63) new
      → Formed s rows lines old new (j + 1)
  formed_more {new} r e u =
      record {
        kept = e ∙ h.kept;
        small = u;
        lowering = λ i b a. go i (ℕ_discrete i j) (λ _. h.lowering i b a);
        done = λ i l. go i (ℕ_discrete i j) (λ p. h.done i (omega arith));
      }
    where
      go : (i : ℕ) → Dec (i ≡ j) → (¬ (i ≡ j) → LineForm s rows forms i) → LineForm s rows new i
      go i (yes p) f = rw p r.here
      go i (no p) f = r.others i p ∙ f p

-- The forms of the lines before a place of a list are written, and no others.
pub record ListFormed (s rows list old forms : List ℕ) (place : ℕ) : Type 0 where
  pub within : place ≤ length list
  pub kept : length forms ≡ length old
  pub small : Under (2 ^ 63) forms
  pub done : (x : ℕ) → x < place → LineForm s rows forms (at list x)
  pub others : (j : ℕ) → ((x : ℕ) → x < place → ¬ (at list x ≡ j)) → row_in forms j ≡ row_in old j

module _ {s rows list old forms : List ℕ} {place : ℕ} (h : ListFormed s rows list old forms place) where
  pub list_formed_more : {new : List ℕ} → place < length list → RowSet (form_in (kind_count s) rows (line_of s (at list place)).left) (at list place) forms new → length new ≡ length forms
      → Under (2 ^ 63) new → ListFormed s rows list old new (place + 1)
  list_formed_more {new} b r e u =
      record {
        within = omega arith;
        kept = e ∙ h.kept;
        small = u;
        done = λ x l. go x l (ℕ_discrete x place) (ℕ_discrete (at list x) (at list place));
        others = λ j n. r.others j (λ p. n place (omega arith) (sym p)) ∙ h.others j (λ x l. n x (omega arith));
      }
    where
      go : (x : ℕ) → x < place + 1 → Dec (x ≡ place) → Dec (at list x ≡ at list place) → LineForm s rows new (at list x)
      go x l _ (yes p) = rw p r.here
      go x l (yes q) (no p) = absurd (p (ap (at list) q))
      go x l (no q) (no p) = r.others (at list x) p ∙ h.done x (omega arith)

  pub list_formed : length list ≤ place → ListForms s rows list old forms
  list_formed l =
      record {
        forms_are = λ j a. rw a.2 at (h.done a.0 (omega (arith, a.1)));
        others = λ j n. h.others j (λ x b p. n (x, omega (arith, h.within), p));
        small = h.small;
      }

-- The list holds the lines of kind k that lower the norm.
pub list_kind : {s rows lines list old forms : List ℕ} {k : ℕ} → lines_in lines ≡ line_count s → Lists (UsableIn lines (unit k)) list → ListForms s rows list old forms
    → KindForms s rows lines k old forms
list_kind {lines = lines} {k = k} e own h =
    record {
      forms_are = λ j b a q. h.forms_are j ((own.entries j).1 ((omega (arith, e), a), rw q (omega (arith, unit_same k))));
      others = λ j n. h.others j (λ w. n (unit_some k (kind_in lines j) ((own.entries j).0 w).1));
      small = h.small;
    }

-- All lines are done.
pub all_formed : {s : List ℕ} {c : Card} → Reads s c → {rows lines old forms : List ℕ} {j : ℕ} → c.lines ≤ j → Formed s rows lines old forms j → AllForms s rows forms
all_formed R l h = record { forms_are = λ i b. h.done i (omega (arith, lines_are R)); small = h.small }
