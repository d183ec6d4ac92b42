-- The loops over the kinds, from the first up: the kinds that are passed are the first i of the list.
use mathlib.Core.List.{List, ◌∷◌, reverse}
use mathlib.Core.Path.{◌≡◌, sym, ◌∙◌, ap, fun_ext}
use Prim.Native.Nat.{ℕ, suc, ◌+◌, ◌-◌, ◌*◌, ◌^◌, ◌≤◌, ◌<◌}
use native.Mathlib.Numerals.{add-one}
use native.Mathlib.Decide.{dec_lt}
use native.Mathlib.Omega.{arith}
use lib.ListN.{length, take, length-take}
use lib.Seq.{get_or-take}
use Rattle.model.specs.Field.{Field, ◌⊕◌, at}
use Rattle.model.specs.Limits.{most_kinds, most_tokens}
use Rattle.tables.specs.Table.{row_part}
use Rattle.shelf.specs.Kinds.{InOrder}
use Rattle.theory.proofs.Shelves.{entries_fit}
use Rattle.tables.proofs.Tables.{at_kind, lent_row, lent_length, past}
use Rattle.shelf.proofs.Loops.{front, front_next, front_all, front_many}
use Rattle.row_sums.specs.Sums.{adding_to}
use Rattle.row_sums.proofs.Sums.{NonePast, adding_most, adding_nothing, adding_something, adding_empty, adding_fits, adding_over, adding_row, adding_other}

-- The first of the kinds are in number order too.
pub in_order_first : (kinds : List ℕ) (i : ℕ) → InOrder kinds → i ≤ length kinds → InOrder (take i kinds)
in_order_first kinds i sorted h = record {
  many = omega (arith, length-take i kinds, sorted.many);
  under = λ x l. rw (get_or-take i kinds x 0 (inside x l)) (sorted.under x (omega (arith, inside x l)));
  rising = λ x y l m. rw (get_or-take i kinds x 0 (omega (arith, inside y m)), get_or-take i kinds y 0 (inside y m)) (sorted.rising x y l (omega (arith, inside y m)));
}
  where
    inside : (x : ℕ) → x < length (take i kinds) → x < i
    inside x l = omega (arith, length-take i kinds)

-- 32 counts have none past them.
pub none_past : (counts : List ℕ) → length counts ≡ most_kinds → NonePast (at counts)
none_past counts long j h = past counts j (omega arith)

-- The table has a row of each of the kinds, and as it is lent it has 32 counts.
module _ (rows : List ℕ) {kinds : List ℕ} (wide : length rows ≡ 1024) (sorted : InOrder kinds) (i : ℕ) (inside : i < length kinds) where
  pub row_inside : at kinds i * most_kinds + most_kinds ≤ length rows
  row_inside = omega (arith, sorted.under i inside)

  pub row_long : {row : List ℕ} → row ≡ row_part rows (at kinds i) → length row ≡ most_kinds
  row_long lent = lent_length rows (at kinds i) row_inside lent

-- No token: the empty field alone, and its rows add up to counts that are all 0.
module _ (rows ks counts : List ℕ) {size : ℕ} (empty : size ≡ 0) (long : length counts ≡ most_kinds) where
  pub empty_adds : ((k : ℕ) → k < length counts → at counts k ≡ 0) → 1 ≡ adding_to rows ks size (at counts)
  empty_adds z = rw empty (sym (adding_nothing rows ks (at counts) (none_past counts long) (fun_ext (λ k. sym (go k (dec_lt k (length counts)))))))
    where
      go : (k : ℕ) → Dec (k < length counts) → at counts k ≡ 0
      go k (yes h) = z k h
      go k (no h) = past counts k (omega arith)

  pub empty_differs : ¬ ((k : ℕ) → k < length counts → at counts k ≡ 0) → 0 ≡ adding_to rows ks size (at counts)
  empty_differs d = rw empty (sym (adding_something rows ks (at counts) (none_past counts long) (λ e. d (λ k _. sym (ap (λ (f : Field). f k) e)))))

-- Of the fields of a size over the first i kinds, so many have rows that add up to the counts.
pub record Counted (rows kinds : List ℕ) (size : ℕ) (counts : List ℕ) (found i : ℕ) : Type 0 where
  pub within : i ≤ length kinds
  pub sum : found ≡ adding_to rows (front kinds i) size (at counts)

pub counted_start : {rows kinds : List ℕ} {size : ℕ} {counts : List ℕ} → 0 < size → Counted rows kinds size counts 0 0
counted_start {rows} {kinds} {size} {counts} h = record { within = omega arith; sum = sym (adding_empty rows (at counts) size h) }

module _ {rows kinds : List ℕ} {size : ℕ} {counts : List ℕ} {found i : ℕ} (H : Counted rows kinds size counts found i) where
  pub counted_end : length kinds ≤ i → found ≡ adding_to rows (reverse kinds) size (at counts)
  counted_end l =
      let e : i ≡ length kinds = omega (arith, H.within) in
      H.sum ∙ ap (λ n. adding_to rows (front kinds n) size (at counts)) e ∙ ap (λ (ks : List ℕ). adding_to rows ks size (at counts)) (front_all kinds)

  -- 64 bits hold the count.
  pub counted_room : InOrder kinds → size ≤ most_tokens → found < 2 ^ 64
  counted_room sorted h =
      omega (arith, H.sum, rw (front_many kinds i H.within) at (adding_most rows (front kinds i) (at counts) size), entries_fit i size (omega (arith, H.within, sorted.many)) h)

  -- One kind more, by what the count is with it.
  next : i < length kinds → (count : ℕ) → count ≡ adding_to rows (at kinds i ∷ front kinds i) size (at counts) → Counted rows kinds size counts count (i + 1)
  next inside count e =
      record { within = omega arith; sum = rw (add-one i) (e ∙ ap (λ (ks : List ℕ). adding_to rows ks size (at counts)) (sym (front_next kinds i inside))) }

-- A turn, by the row of the kind as it is lent: of more than no tokens, the row goes into the counts and leaves others, or does not.
module _ {rows kinds : List ℕ} {size : ℕ} {counts : List ℕ} {found i : ℕ} {row : List ℕ} (H : Counted rows kinds size counts found i)
    (sorted : InOrder kinds) (long : length counts ≡ most_kinds) (some : 0 < size) (inside : i < length kinds) (lent : row ≡ row_part rows (at kinds i)) where
  size_is : suc (size - 1) ≡ size
  size_is = omega arith

  pub counted_more : (left : List ℕ) → at left ⊕ at row ≡ at counts → (more : ℕ) → more ≡ adding_to rows (front kinds (i + 1)) (size - 1) (at left) → Counted rows kinds size counts (found + more) (i + 1)
  counted_more left e more m =
      next H inside (found + more) (omega (
        arith,
        H.sum,
        rw (add-one i, front_next kinds i inside) at m,
        rw size_is at (adding_fits rows (at kinds i) (front kinds i) (size - 1) (at counts) (sorted.under i inside) (none_past counts long) (at left) (rw (lent_row rows (at kinds i) lent) at e)),
      ))

  pub counted_over : ¬ ((j : ℕ) → at row j ≤ at counts j) → Counted rows kinds size counts found (i + 1)
  counted_over n =
      next H inside found (H.sum ∙ sym (rw size_is at
      (adding_over rows (at kinds i) (front kinds i) (size - 1) (at counts) (sorted.under i inside) (none_past counts long)
      (λ f. n (λ j. rw (at_kind (lent_row rows (at kinds i) lent) j) (f j))))))

-- Of one token, the row is the counts, or not.
module _ {rows kinds counts : List ℕ} {found i : ℕ} {row : List ℕ} (H : Counted rows kinds 1 counts found i)
    (sorted : InOrder kinds) (long : length counts ≡ most_kinds) (inside : i < length kinds) (lent : row ≡ row_part rows (at kinds i)) where
  pub counted_row : at row ≡ at counts → Counted rows kinds 1 counts (found + 1) (i + 1)
  counted_row e =
      next H inside (found + 1)
      (omega (arith, H.sum, adding_row rows (at kinds i) (front kinds i) (at counts) (sorted.under i inside) (none_past counts long) (rw (lent_row rows (at kinds i) lent) at e)))

  pub counted_other : ¬ (at row ≡ at counts) → Counted rows kinds 1 counts found (i + 1)
  counted_other d =
      next H inside found
      (H.sum ∙ sym (adding_other rows (at kinds i) (front kinds i) (at counts) (sorted.under i inside) (none_past counts long) (rw (lent_row rows (at kinds i) lent) at d)))
