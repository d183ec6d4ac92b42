-- The lines of a row, entry by entry.
use mathlib.Core.List.{List, ◌++◌}
use mathlib.Core.Path.{◌≡◌, ◌∙◌, ap}
use Prim.Native.Nat.{ℕ, ◌*◌}
use native.Mathlib.Omega.{arith}
use lib.ListN.{length, get_or}
use Rattle.model.specs.Finite.{concat, list_from}
use Rattle.text.specs.Appended.{Appended}
use Rattle.text.proofs.Append.{then, reads_as}
use Rattle.text.proofs.Sequence.{by_number}
use Rattle.entries.specs.Table.{entries_of, entry_line, entry_lines, row_text, row_texts}
use Rattle.entries.proofs.Rows.{seventeen}

-- The line of an entry, by its number in the row.
abbrev pub line_at : List ℕ → ℕ → List ℕ
line_at xs t = entry_line (get_or xs t 0)

-- All entries of a row.
pub lines_all : {i k start : ℕ} {b d : List ℕ} (xs : List ℕ) → i ≡ length xs → Appended (26 * i) b start (concat (list_from (line_at xs) 0 i)) d k
    → Appended (26 * length xs) b start (entry_lines xs) d k
unfolding entry_lines
lines_all {i} xs e p =
    reads_as (26 * length xs) (entry_lines xs) p (omega arith)
    (ap (λ (n : ℕ). concat (list_from (line_at xs) 0 n)) e ∙ ap concat (by_number entry_line xs))

-- The row of the entries for k kinds.
pub row_lines_lem : {i j : ℕ} {b d : List ℕ} (k : ℕ) {xs : List ℕ} → xs ≡ entries_of k → Appended (26 * length xs) b i (entry_lines xs) d j → Appended 442 b i (row_text k) d j
unfolding row_text
row_lines_lem k e p = reads_as 442 (row_text k) p (omega (arith, seventeen k e)) (ap entry_lines e)

-- The first row, then the others.
pub rows_all : {n i j l : ℕ} {b c d : List ℕ} → n ≡ 32 → Appended 442 b i (row_text 0) c j → Appended (442 * n) c j (concat (list_from row_text 1 n)) d l
    → Appended 14586 b i (row_texts 33) d l
unfolding row_texts concat list_from
rows_all {n} e first others =
    reads_as 14586 (row_texts 33) (then first others) (omega arith) (ap (λ (m : ℕ). row_text 0 ++ concat (list_from row_text 1 m)) e)
