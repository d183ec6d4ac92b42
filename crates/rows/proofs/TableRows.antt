-- Rows of flat tables: stored as parts, and how large their counts and the forms by them are.
-- Assumes nothing.
use mathlib.Core.List.{List, ◌++◌, append_assoc}
use mathlib.Core.Path.{◌≡◌, refl, ◌∙◌}
use Prim.Native.Nat.{ℕ, ◌+◌, ◌*◌, ◌-◌, ◌^◌, ◌≤◌, ◌<◌}
use native.Mathlib.Decide.{dec_lt}
use native.Mathlib.Nat.{add-sub_cancel_left}
use native.Mathlib.Omega.{arith}
use lib.ListN.{length, take, drop}
use lib.Seq.{drop-drop}
use Rattle.model.specs.Field.{Field, at}
use Rattle.model.specs.Limits.{most_kinds}
use Rattle.weights.proofs.Counts.{weigh_within}
use Rattle.tables.specs.Table.{Under, row_in, form_in, with_row}
use Rattle.rows.specs.Forms.{RowSet}
use Rattle.tables.proofs.Tables.{lent_under}
use Rattle.tables.proofs.Stores.{replaced_before, replaced_in, replaced_after, with_row_is, with_others}

-- A table of which the part that holds row k was lent and has come back as r.
abbrev pub with_part : List ℕ → ℕ → List ℕ → List ℕ
with_part t k r = take (k * most_kinds) t ++ (r ++ drop (k * most_kinds + most_kinds - k * most_kinds) (drop (k * most_kinds) t))

module _ (t r : List ℕ) (k : ℕ) (wide : length r ≡ most_kinds) (fits : k * most_kinds + most_kinds ≤ length t) where
  part_put : with_part t k r ≡ with_row t k r
  unfolding with_row
  part_put = rw (add-sub_cancel_left (k * most_kinds) most_kinds, append_assoc, wide, drop-drop most_kinds (k * most_kinds) t)

  pub row_set : (f : Field) → at r ≡ f → RowSet f k t (with_part t k r)
  row_set f e = rw part_put (record { here = with_row_is t r k wide fits ∙ e; others = with_others t r k wide fits })

  with_under : {bound : ℕ} → Under bound t → Under bound r → Under bound (with_row t k r)
  unfolding with_row
  with_under {bound} u v i = go (dec_lt i (k * most_kinds)) (dec_lt i (k * most_kinds + length r))
    where
      inside : k * most_kinds + length r ≤ length t
      inside = omega arith

      go : Dec (i < k * most_kinds) → Dec (i < k * most_kinds + length r) → at (with_row t k r) i < bound
      go (yes h) d = rw (replaced_before t r (k * most_kinds) inside i h) (u i)
      go (no h) (yes g) =
          let e : k * most_kinds + (i - k * most_kinds) ≡ i = omega arith in
          let f : at (with_row t k r) i ≡ at r (i - k * most_kinds) = rw e at (replaced_in t r (k * most_kinds) inside (i - k * most_kinds) (omega arith)) in
          rw f (v (i - k * most_kinds))
      go (no h) (no g) = rw (replaced_after t r (k * most_kinds) inside i (omega arith)) (u i)

  pub row_set_under : {bound : ℕ} → Under bound t → Under bound r → Under bound (with_part t k r)
  row_set_under u v = rw part_put (with_under u v)

-- The form of a line's byte counts, by rows of 32-bit counts, keeps within 63 bits.
pub form_small : (n : ℕ) (rows : List ℕ) (a : Field) → n ≤ most_kinds → Under (2 ^ 32) rows → ((k : ℕ) → a k < 256) → (j : ℕ) → form_in n rows a j < 2 ^ 63
unfolding form_in row_in
form_small n rows a few u b j =
    omega (arith, weigh_within n most_kinds 255 4294967295 (λ k. row_in rows k j) a few (λ k _. omega (arith, b k)) (λ k _. omega (arith, lent_under rows k refl u j)))
