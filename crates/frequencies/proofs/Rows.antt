-- Tables of the kinds' rows as counts of 64 bits: norms as rows, and the rows of the stage before.
use mathlib.Core.List.{List, ◌++◌, append_assoc}
use mathlib.Core.Path.{◌≡◌, refl, sym, ◌∙◌, ap}
use Prim.Native.Nat.{ℕ, ◌+◌, ◌-◌, ◌*◌, ◌≤◌, ◌<◌}
use native.Mathlib.Decide.{ℕ_discrete}
use native.Mathlib.Omega.{arith}
use lib.ListN.{length, take, drop, set, replicate, length-set}
use lib.Seq.{get_or-set_same, get_or-set_other, drop-drop}
use Rattle.model.specs.Answer.{written}
use Rattle.model.specs.Field.{none, times, unit, at}
use Rattle.model.specs.Limits.{most_kinds}
use Rattle.theory.proofs.Field.{unit_same, unit_other}
use Rattle.theory.proofs.Writing.{written_whole}
use Rattle.tables.specs.Table.{row_in, with_row}
use Rattle.tables.proofs.Tables.{at_kind, row_at, row_past, row_same, zero_row, lent_length}
use Rattle.tables.proofs.Stores.{with_row_is, with_others}
use Rattle.shelf.specs.Kinds.{InOrder}
use Rattle.stages.specs.Kept.{form_before}
use Rattle.frequencies.specs.Related.{RowLowered, RowsLowered}

-- Norms as rows: those of the kinds below k are set.
pub record NormRows (norms table : List ℕ) (k : ℕ) : Type 0 where
  pub within : k ≤ most_kinds
  pub long : length table ≡ 1024
  pub set_rows : (i : ℕ) → i < k → row_in table i ≡ times (at norms i) (unit 0)
  pub unset : (i : ℕ) → k ≤ i → row_in table i ≡ none

pub norm_rows_none : {norms table : List ℕ} → table ≡ replicate 1024 0 → length table ≡ 1024 → NormRows norms table 0
norm_rows_none e l = record { within = omega arith; long = l; set_rows = λ i h. absurd (omega arith); unset = λ i h. rw e (zero_row 1024 i) }

pub norm_rows_more : {norms table : List ℕ} {k v : ℕ} → NormRows norms table k → k < most_kinds → v ≡ at norms k → NormRows norms (set table (k * 32) v) (k + 1)
norm_rows_more {norms} {table} {k} {v} r h e = record {
  within = omega arith;
  long = length-set table (k * 32) v ∙ r.long;
  set_rows = λ i l. go i l (ℕ_discrete i k);
  unset = λ i l. other i (λ d. omega arith) ∙ r.unset i (omega arith);
}
  where
    other : (i : ℕ) → ¬ (i ≡ k) → row_in (set table (k * 32) v) i ≡ row_in table i
    other i d = row_same _ i (λ j l. get_or-set_other table (k * 32) (i * most_kinds + j) v 0 (λ q. d (omega arith)) ∙ sym (row_at table i j l)) (λ j l. row_past table i j l)

    first : (j : ℕ) → j < most_kinds → Dec (j ≡ 0) → at (set table (k * 32) v) (k * most_kinds + j) ≡ at norms k * unit 0 j
    first j l (yes z) =
        let p : k * most_kinds + j ≡ k * 32 = omega arith in
        ap (at (set table (k * 32) v)) p ∙ get_or-set_same table (k * 32) v 0 (omega (arith, r.long)) ∙ rw (z, unit_same 0) (omega arith)
    first j l (no z) =
        get_or-set_other table (k * 32) (k * most_kinds + j) v 0 (λ q. z (omega arith)) ∙ sym (row_at table k j l) ∙ at_kind (r.unset k (omega arith)) j ∙ rw (unit_other 0 j z) (omega arith)

    go : (i : ℕ) → i < k + 1 → Dec (i ≡ k) → row_in (set table (k * 32) v) i ≡ times (at norms i) (unit 0)
    go i l (yes d) = rw d (row_same _ k (λ j m. first j m (ℕ_discrete j 0)) (λ j m. rw (unit_other 0 j (λ z. omega arith)) (omega arith)))
    go i l (no d) = other i d ∙ r.set_rows i (omega arith)

-- A row that is written to its place in a table.
pub row_lowered : {since before : List ℕ} {stage k : ℕ} (rows row : List ℕ) {lowered : List ℕ} → length rows ≡ 1024 → k < most_kinds → length row ≡ most_kinds
    → at row ≡ form_before since before stage (row_in rows k) → lowered ≡ with_row rows k row → RowLowered since before stage k rows lowered
row_lowered {k = k} rows row long h wide e d = record {
  here = rw d (with_row_is rows row k wide (omega arith)) ∙ e;
  others = λ i q. rw d (with_others rows row k wide (omega arith) i q);
}

-- The rows of the first i of the kinds are those of the stage before, and the rows of the others are as they were.
pub record LoweredTo (kinds since before : List ℕ) (stage : ℕ) (rows lowered : List ℕ) (i : ℕ) : Type 0 where
  pub within : i ≤ length kinds
  pub long : length lowered ≡ length rows
  pub each : (x : ℕ) → x < i → row_in lowered (at kinds x) ≡ form_before since before stage (row_in rows (at kinds x))
  pub left : (x : ℕ) → i ≤ x → x < length kinds → row_in lowered (at kinds x) ≡ row_in rows (at kinds x)

pub lowered_none : {kinds since before : List ℕ} {stage : ℕ} {rows : List ℕ} → LoweredTo kinds since before stage rows rows 0
lowered_none = record { within = omega arith; long = refl; each = λ x h. absurd (omega arith); left = λ x h l. refl }

module _ {kinds since before : List ℕ} {stage : ℕ} {rows lowered : List ℕ} {i : ℕ} (r : LoweredTo kinds since before stage rows lowered i) where
  pub lowered_all : length kinds ≤ i → RowsLowered kinds since before stage rows lowered
  lowered_all h x l = r.each x (omega (arith, r.within))

  pub lowered_more : InOrder kinds → i < length kinds → {new : List ℕ} → length new ≡ length lowered → RowLowered since before stage (at kinds i) lowered new
      → LoweredTo kinds since before stage rows new (i + 1)
  lowered_more sorted h {new} l w = record {
    within = omega arith;
    long = l ∙ r.long;
    each = λ x m. go x m (ℕ_discrete x i);
    left = λ x m n. w.others (at kinds x) (λ q. omega (arith, sorted.rising i x (omega arith) n)) ∙ r.left x (omega arith) n;
  }
    where
      go : (x : ℕ) → x < i + 1 → Dec (x ≡ i) → row_in new (at kinds x) ≡ form_before since before stage (row_in rows (at kinds x))
      go x m (yes q) = rw q (w.here ∙ ap (form_before since before stage) (r.left i (omega arith) h))
      go x m (no q) = w.others (at kinds x) (λ z. omega (arith, sorted.rising x i (omega arith) h)) ∙ r.each x (omega arith)

  -- What the next row needs.
  pub lowered_fits : {bound : ℕ} → i < length kinds → ((x j : ℕ) → x < length kinds → form_before since before stage (row_in rows (at kinds x)) j < bound)
      → (j : ℕ) → form_before since before stage (row_in lowered (at kinds i)) j < bound
  lowered_fits h f j = rw (r.left i (omega arith) h) (f i j h)

-- A row that is written to its place in a table: to the part of it that has the row.
pub row_put : (rows row part : List ℕ) (k : ℕ) → length row ≡ most_kinds → length part ≡ most_kinds
    → take (k * 32) rows ++ (written row part ++ drop (k * 32 + 32 - k * 32) (drop (k * 32) rows)) ≡ with_row rows k row
unfolding with_row
row_put rows row part k e d =
    let z : k * 32 + 32 - k * 32 ≡ 32 = omega arith in
    rw (written_whole row part (e ∙ sym d), z, drop-drop 32 (k * 32) rows, e) (sym (append_assoc (take (k * 32) rows) row (drop (k * 32 + 32) rows)))

pub part_long : (rows : List ℕ) (k : ℕ) → k * 32 + 32 ≤ length rows → length (take (k * 32 + 32 - k * 32) (drop (k * 32) rows)) ≡ most_kinds
part_long rows k h = let z : k * 32 + 32 - k * 32 ≡ 32 = omega arith in rw z (lent_length rows k h refl)
