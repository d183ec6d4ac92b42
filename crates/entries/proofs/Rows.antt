-- A row of entries that becomes the next, entry by entry.
use mathlib.Core.List.{List}
use mathlib.Core.Path.{◌≡◌, sym, ◌∙◌, ap}
use Prim.Native.Nat.{ℕ, zero, suc, ◌+◌, ◌-◌, ◌^◌, ◌≤◌, ◌<◌}
use native.Mathlib.Decide.{ℕ_discrete}
use native.Mathlib.Omega.{arith}
use lib.ListN.{length, get_or, set, length-set}
use lib.Seq.{ext_get_or, get_or-set_same, get_or-set_other}
use Rattle.model.specs.Finite.{list_from}
use Rattle.model.specs.Shelf.{entry}
use Rattle.theory.proofs.Lists.{length_from, get_d_from}
use Rattle.theory.proofs.Entries.{entry_none, entry_next}
use Rattle.theory.proofs.Shelves.{entries_fit}
use Rattle.entries.specs.Table.{entries_of}

-- There are 17 entries for k kinds.
pub seventeen : (k : ℕ) {row : List ℕ} → row ≡ entries_of k → length row ≡ 17
unfolding entries_of
seventeen k e = ap length e ∙ length_from (entry k) 0 17

-- The entries for fewer than t tokens are those for k + 1 kinds, the others still those for k.
pub record Partly (k t : ℕ) (row : List ℕ) : Type 0 where
  pub many : length row ≡ 17
  pub new : (j : ℕ) → j < t → get_or row j 0 ≡ entry (k + 1) j
  pub old : (j : ℕ) → t ≤ j → j < 17 → get_or row j 0 ≡ entry k j

-- The entry for 0 tokens is the same for all numbers of kinds.
pub none_new : (k : ℕ) {row : List ℕ} → row ≡ entries_of k → Partly k 1 row
unfolding entries_of
none_new k {row} e = record { many = seventeen k e; new = new; old = λ j h l. is j l }
  where
    is : (j : ℕ) → j < 17 → get_or row j 0 ≡ entry k j
    is j l = let z : 0 + j ≡ j = omega arith in ap (λ (xs : List ℕ). get_or xs j 0) e ∙ get_d_from (entry k) 0 17 j 0 l ∙ ap (entry k) z

    new : (j : ℕ) → j < 1 → get_or row j 0 ≡ entry (k + 1) j
    new zero h = is 0 (omega arith) ∙ entry_none k ∙ sym (entry_none (k + 1))
    new (suc j) h = absurd (omega arith)

module _ (k t : ℕ) {row : List ℕ} (p : Partly k t row) (h : 1 ≤ t) (l : t < 17) where
  -- The sum is the entry for k + 1 kinds, by the rule.
  pub sum_is : get_or row t 0 + get_or row (t - 1) 0 ≡ entry (k + 1) t
  sum_is =
      let e : suc (t - 1) ≡ t = omega arith in
      let f : suc k ≡ k + 1 = omega arith in
      let rule : entry (k + 1) t ≡ entry k t + entry (k + 1) (t - 1) = rw (e, f) at (entry_next k (t - 1)) in
      omega (arith, p.old t (omega arith) l, p.new (t - 1) (omega arith))

  pub sum_fits : k < 32 → get_or row t 0 + get_or row (t - 1) 0 ≤ 2 ^ 48
  sum_fits u = omega (arith, sum_is, entries_fit (k + 1) t (omega arith) (omega arith))

  -- It is stored.
  pub one_new : Partly k (t + 1) (set row t (get_or row t 0 + get_or row (t - 1) 0))
  one_new = record { many = length-set row t x ∙ p.many; new = λ j u. new j u (ℕ_discrete j t); old = λ j u v. old j u v }
    where
      x : ℕ
      x = get_or row t 0 + get_or row (t - 1) 0

      new : (j : ℕ) → j < t + 1 → Dec (j ≡ t) → get_or (set row t x) j 0 ≡ entry (k + 1) j
      new j u (yes e) = rw e (get_or-set_same row t x 0 (omega (arith, p.many)) ∙ sum_is)
      new j u (no d) = get_or-set_other row t j x 0 d ∙ p.new j (omega arith)

      old : (j : ℕ) → t + 1 ≤ j → j < 17 → get_or (set row t x) j 0 ≡ entry k j
      old j u v = get_or-set_other row t j x 0 (λ e. omega arith) ∙ p.old j (omega arith) v

-- All are new.
pub all_new : (k t : ℕ) {row : List ℕ} → Partly k t row → 17 ≤ t → row ≡ entries_of (k + 1)
unfolding entries_of
all_new k t {row} p h = ext_get_or 0 row (list_from (entry (k + 1)) 0 17) (p.many ∙ sym (length_from (entry (k + 1)) 0 17)) each
  where
    each : (j : ℕ) → j < length row → get_or row j 0 ≡ get_or (list_from (entry (k + 1)) 0 17) j 0
    each j l =
        let z : j ≡ 0 + j = omega arith in
        let m : j < 17 = omega (arith, p.many) in
        p.new j (omega arith) ∙ ap (entry (k + 1)) z ∙ sym (get_d_from (entry (k + 1)) 0 17 j 0 m)
