-- Rows that are stored in a flat table.
-- Assumes nothing.
use mathlib.Core.List.{List, ◌++◌}
use mathlib.Core.Path.{◌≡◌, sym, subst, ap, ◌∙◌}
use Prim.Native.Nat.{ℕ, ◌+◌, ◌*◌, ◌-◌, ◌≤◌, ◌<◌}
use native.Mathlib.Decide.{dec_lt}
use native.Mathlib.Omega.{arith}
use lib.ListN.{length, get_or, take, drop, get_or-append, length-append}
use lib.Seq.{get_or-take, get_or-drop, get_or-append-add, length-take-le}
use Rattle.model.specs.Field.{at}
use Rattle.model.specs.Limits.{most_kinds}
use Rattle.tables.specs.Table.{row_in, with_row}
use Rattle.tables.proofs.Tables.{row_at, row_past, row_same, past}

-- A list with the counts from index a on replaced by those of another.
module _ (t r : List ℕ) (a : ℕ) (fits : a + length r ≤ length t) where
  abbrev replaced : List ℕ
  replaced = take a t ++ r ++ drop (a + length r) t

  head_length : length (take a t ++ r) ≡ a + length r
  head_length = length-append (take a t) r ∙ ap (λ (x : ℕ). x + length r) (length-take-le a t (omega arith))

  pub replaced_before : (i : ℕ) → i < a → at replaced i ≡ at t i
  replaced_before i h =
      get_or-append (take a t ++ r) (drop (a + length r) t) 0 i (omega (arith, head_length))
      ∙ get_or-append (take a t) r 0 i (omega (arith, length-take-le a t (omega arith)))
      ∙ get_or-take a t i 0 h

  pub replaced_in : (i : ℕ) → i < length r → at replaced (a + i) ≡ at r i
  replaced_in i h =
      let e : length (take a t) ≡ a = length-take-le a t (omega arith) in
      get_or-append (take a t ++ r) (drop (a + length r) t) 0 (a + i) (omega (arith, head_length))
      ∙ subst (λ (x : ℕ). get_or (take a t ++ r) (x + i) 0 ≡ at r i) e (get_or-append-add (take a t) r i 0)

  pub replaced_after : (i : ℕ) → a + length r ≤ i → at replaced i ≡ at t i
  replaced_after i h =
      let n : ℕ = i - (a + length r) in
      let e : length (take a t ++ r) + n ≡ i = omega (arith, head_length) in
      let d : a + length r + n ≡ i = omega arith in
      subst (λ (x : ℕ). get_or replaced x 0 ≡ get_or (drop (a + length r) t) n 0) e (get_or-append-add (take a t ++ r) (drop (a + length r) t) n 0)
      ∙ get_or-drop (a + length r) t n 0
      ∙ ap (at t) d

-- A table with row k replaced: the row is the new one, and the others are as they were.
module _ (t r : List ℕ) (k : ℕ) (wide : length r ≡ most_kinds) (fits : k * most_kinds + most_kinds ≤ length t) where
  inside : k * most_kinds + length r ≤ length t
  inside = omega arith

  pub with_row_is : row_in (with_row t k r) k ≡ at r
  unfolding with_row
  with_row_is = row_same _ k (λ j l. replaced_in t r (k * most_kinds) inside j (omega arith)) (λ j l. past r j (omega arith))

  pub with_others : (i : ℕ) → ¬ (i ≡ k) → row_in (with_row t k r) i ≡ row_in t i
  unfolding with_row
  with_others i d = row_same _ i (λ j l. go j l (dec_lt i k) ∙ sym (row_at t i j l)) (λ j l. row_past t i j l)
    where
      go : (j : ℕ) → j < most_kinds → Dec (i < k) → at (with_row t k r) (i * most_kinds + j) ≡ at t (i * most_kinds + j)
      go j l (yes b) = replaced_before t r (k * most_kinds) inside (i * most_kinds + j) (omega arith)
      go j l (no b) = replaced_after t r (k * most_kinds) inside (i * most_kinds + j) (omega arith)
