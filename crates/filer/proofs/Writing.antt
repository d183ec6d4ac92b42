-- The entries of the table that Settle writes, and its rows, stored as parts.
use mathlib.Core.List.{List, ◌++◌, append_assoc, append-nil}
use mathlib.Core.Path.{◌≡◌, sym, ◌∙◌}
use Prim.Native.Nat.{ℕ, ◌+◌, ◌*◌, ◌-◌, ◌/◌, ◌%◌, ◌≤◌, ◌<◌}
use native.Mathlib.Decide.{dec_lt}
use native.Mathlib.Nat.{div-lt_iff_lt-mul, mod-lt, mul-le-mul_right, suc-mul, add-zero, mul-add-div_right, div-eq_of_lt, mul-add-mod_self_right, mod-eq_of_lt, add-sub_cancel_left}
use native.Mathlib.Omega.{arith}
use lib.ListN.{length, get_or, take, drop, length-drop, drop_of_length-le}
use lib.Seq.{take_at, drop_at, drop-drop, take-add, length-take-le, get_or-take, get_or-drop, ext_get_or}
use Rattle.model.specs.Limits.{most_kinds}
use Rattle.model.specs.Field.{at}
use Rattle.model.specs.Answer.{written}
use Rattle.theory.proofs.Lists.{length_from, get_d_from}
use Rattle.theory.proofs.Writing.{Begun}
use Rattle.tables.specs.Table.{row_in}
use Rattle.tables.proofs.Tables.{row_at}
use Rattle.filer.specs.Settlement.{table_in}

-- Entry i of a table with n counts to a row, in one with 32 to a row.
module _ (n : ℕ) (rows : List ℕ) where
  pub table_long : length (table_in n rows) ≡ n * n
  unfolding table_in
  table_long = length_from (λ i. row_in rows (i / n) (i % n)) 0 (n * n)

  module _ (i : ℕ) (h : i < n * n) where
    some : 0 < n
    some = go (dec_lt 0 n)
      where
        go : Dec (0 < n) → 0 < n
        go (yes p) = p
        go (no p) = let e : n ≡ 0 = omega arith in let z : i < 0 * 0 = rw e at h in absurd (omega arith)

    pub row_under : i / n < n
    row_under = (div-lt_iff_lt-mul some).1 h

    pub count_under : i % n < n
    count_under = mod-lt i some

    pub table_at : get_or (table_in n rows) i 0 ≡ row_in rows (i / n) (i % n)
    unfolding table_in
    table_at = let z : 0 + i ≡ i = omega arith in rw z at (get_d_from (λ i. row_in rows (i / n) (i % n)) 0 (n * n) i 0 h)

-- The part of n entries from entry a on, as it is lent.
abbrev pub part_at : List ℕ → ℕ → ℕ → List ℕ
part_at xs a n = take (a + n - a) (drop a xs)

pub part_long : (xs : List ℕ) (a n : ℕ) → a + n ≤ length xs → length (part_at xs a n) ≡ n
part_long xs a n h = rw (add-sub_cancel_left a n) (length-take-le n (drop a xs) (omega (arith, length-drop a xs)))

pub part_entry : (xs : List ℕ) (a n j : ℕ) → j < n → get_or (part_at xs a n) j 0 ≡ get_or xs (a + j) 0
part_entry xs a n j h = get_or-take (a + n - a) (drop a xs) j 0 (omega arith) ∙ get_or-drop a xs j 0

-- Row k of such a table is the beginning of row k of the one with 32 to a row.
module _ (n k : ℕ) (rows : List ℕ) (h : k < n) where
  pub row_fits : k * n + n ≤ n * n
  row_fits = omega (arith, mul-le-mul_right n h, suc-mul k n)

  table_entry_is : n ≤ most_kinds → (j : ℕ) → j < n → at rows (k * most_kinds + j) ≡ get_or (table_in n rows) (k * n + j) 0
  table_entry_is few j l =
      let some : 0 < n = omega arith in
      let row : (k * n + j) / n ≡ k = rw (mul-add-div_right some k j, div-eq_of_lt l) (add-zero k) in
      let count : (k * n + j) % n ≡ j = rw (mul-add-mod_self_right k n j) (mod-eq_of_lt l) in
      let e : row_in rows ((k * n + j) / n) ((k * n + j) % n) ≡ at rows (k * most_kinds + j) = rw (row, count) (row_at rows k j (omega arith)) in
      sym (table_at n rows (k * n + j) (omega (arith, row_fits)) ∙ e)

  module _ (few : n ≤ most_kinds) (long : length rows ≡ 1024) where
    pub row_long : length (part_at rows (k * most_kinds) n) ≡ n
    row_long = part_long rows (k * most_kinds) n (omega arith)

    row_same : part_at rows (k * most_kinds) n ≡ part_at (table_in n rows) (k * n) n
    row_same = ext_get_or 0 _ _ (row_long ∙ sym (part_long (table_in n rows) (k * n) n (omega (arith, table_long n rows, row_fits)))) each
      where
        each : (j : ℕ) → j < length (part_at rows (k * most_kinds) n) → get_or (part_at rows (k * most_kinds) n) j 0 ≡ get_or (part_at (table_in n rows) (k * n) n) j 0
        each j l =
            let q : j < n = omega (arith, row_long) in
            part_entry rows (k * most_kinds) n j q ∙ table_entry_is few j q ∙ sym (part_entry (table_in n rows) (k * n) n j q)

    -- It is written to the whole of a part as long.
    pub row_written : (part : List ℕ) → length part ≡ n → written (part_at rows (k * most_kinds) n) part ≡ part_at (table_in n rows) (k * n) n
    unfolding written
    row_written part e = rw (row_long, drop_of_length-le part {i = n} (omega arith), append-nil) row_same

-- The first i entries of a list were stored to a buffer; the part of it after them was lent, and has come back as the next n entries of the list.
pub begun_part : {xs buffer : List ℕ} {i : ℕ} {g : List ℕ} → Begun xs buffer i g → (n : ℕ) → i + n ≤ length xs → (part : List ℕ) → part ≡ part_at xs i n
    → Begun xs buffer (i + n) (take i g ++ (part ++ drop (i + n - i) (drop i g)))
begun_part {xs} {buffer} {i} {g} B n h part e =
    record { room = B.room; within = h; holds = rw (e, add-sub_cancel_left i n, front, rest, drop-drop n i buffer, ← append_assoc, ← take-add i n xs, none (i + n)) }
  where
    none : (a : ℕ) → 0 + a ≡ a
    none a = omega arith

    held : g ≡ take i xs ++ drop i buffer
    held = rw (none i) at B.holds

    front : take i g ≡ take i xs
    front = rw held (take_at (take i xs) (drop i buffer) i (length-take-le i xs B.within))

    rest : drop i g ≡ drop i buffer
    rest = rw held (drop_at (take i xs) (drop i buffer) i (length-take-le i xs B.within))
