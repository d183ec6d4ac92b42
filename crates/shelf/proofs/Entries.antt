-- A table that passes the test of the addition rule holds the entries.
use mathlib.Core.List.{List}
use mathlib.Core.Path.{◌≡◌, ◌∙◌}
use Prim.Native.Nat.{ℕ, zero, suc, ◌+◌, ◌-◌, ◌≤◌, ◌<◌}
use native.Mathlib.Omega.{arith}
use lib.Dec.{T}
use Rattle.model.specs.Limits.{most_kinds, most_tokens}
use Rattle.model.specs.Shelf.{entry}
use Rattle.theory.proofs.Exec.{tells_eq}
use Rattle.theory.proofs.Lists.{tells_below}
use Rattle.theory.proofs.Entries.{entry_most}
use Rattle.shelf.specs.Rule.{table_entry, ruled, obeys_rule}

module _ (table : List ℕ) (obeys : T (obeys_rule table)) where
  -- What the test says of each entry.
  rule : (k t : ℕ) → k ≤ most_kinds → t ≤ most_tokens → table_entry table k t ≡ ruled table k t
  unfolding obeys_rule
  rule k t h i =
      (tells_below _ (λ k. (t : ℕ) → t < suc most_tokens → table_entry table k t ≡ ruled table k t)
      (λ k. tells_below _ (λ t. table_entry table k t ≡ ruled table k t) (λ t. tells_eq (table_entry table k t) (ruled table k t)) (suc most_tokens)) (suc most_kinds)
      ).fact obeys k (omega arith) t (omega arith)

  pub entries_are : (k t : ℕ) → k ≤ most_kinds → t ≤ most_tokens → table_entry table k t ≡ entry k t
  unfolding ruled entry
  entries_are zero zero h i = rule zero zero h i
  entries_are zero (suc t) h i = rule zero (suc t) h i
  entries_are (suc k) zero h i = rule (suc k) zero h i ∙ entries_are k zero (omega arith) i
  entries_are (suc k) (suc t) h i =
      let e : table_entry table (suc k) (suc t) ≡ table_entry table k (suc t) + table_entry table (suc k) t = rule (suc k) (suc t) h i in
      let f : table_entry table k (suc t) ≡ entry k (suc t) = entries_are k (suc t) (omega arith) i in
      let g : table_entry table (suc k) t ≡ entry (suc k) t = entries_are (suc k) t h (omega arith) in
      rw (e, f, g)

-- The entry of a smaller size is no greater, where there is a kind.
pub entry_smaller : (k t count : ℕ) → 1 ≤ k → count ≤ t → entry k (t - count) ≤ entry k t
entry_smaller zero t count h l = absurd (omega arith)
entry_smaller (suc k) t count h l = entry_most (suc k) k (t - count) t (omega arith) (omega arith)
