-- The table's entries: the rule that makes them, how they grow and how wide they are.
use mathlib.Core.Path.{◌≡◌, refl}
use Prim.Native.Nat.{ℕ, zero, suc, ◌+◌, ◌-◌, ◌^◌, ◌≤◌, ◌<◌}
use native.Mathlib.Omega.{arith}
use Rattle.model.specs.Shelf.{entry}

-- The table's rule, as a program has it.
pub entry_none : (k : ℕ) → entry k 0 ≡ 1
unfolding entry
entry_none zero = refl
entry_none (suc k) = entry_none k

pub entry_next : (k t : ℕ) → entry (suc k) (suc t) ≡ entry k (suc t) + entry (suc k) t
unfolding entry
entry_next k t = refl

pub entry_empty : (t : ℕ) → 0 < t → entry 0 t ≡ 0
unfolding entry
entry_empty zero h = absurd (omega arith)
entry_empty (suc t) h = refl

pub entry_grows : (k t : ℕ) → entry k t ≤ entry (suc k) t
unfolding entry
entry_grows k zero = omega arith
entry_grows k (suc t) = omega arith

pub entry_width : (k t : ℕ) → entry k t ≤ 2 ^ (k + t)
unfolding entry
entry_width zero zero = omega arith
entry_width zero (suc t) = omega arith
entry_width (suc k) zero = let e : suc k + 0 ≡ suc (k + 0) = omega arith in rw e (omega (arith, entry_width k zero))
entry_width (suc k) (suc t) =
    let e : suc k + suc t ≡ suc (suc (k + t)) = omega arith in
    let f : k + suc t ≡ suc (k + t) = omega arith in
    let g : suc k + t ≡ suc (k + t) = omega arith in
    rw e (omega (arith, rw f at (entry_width k (suc t)), rw g at (entry_width (suc k) t)))

-- The greatest entry is the last.
pub entry_more : (k t : ℕ) → entry (suc k) t ≤ entry (suc k) (suc t)
entry_more k t = omega (arith, entry_next k t)

entry_kinds : (k t d : ℕ) → entry k t ≤ entry (k + d) t
entry_kinds k t zero = let e : k + 0 ≡ k = omega arith in rw e (omega arith)
entry_kinds k t (suc d) = let e : k + suc d ≡ suc (k + d) = omega arith in rw e (omega (arith, entry_kinds k t d, entry_grows (k + d) t))

entry_sizes : (k t d : ℕ) → entry (suc k) t ≤ entry (suc k) (t + d)
entry_sizes k t zero = let e : t + 0 ≡ t = omega arith in rw e (omega arith)
entry_sizes k t (suc d) = let e : t + suc d ≡ suc (t + d) = omega arith in rw e (omega (arith, entry_sizes k t d, entry_more k (t + d)))

pub entry_most : (k n t m : ℕ) → k ≤ suc n → t ≤ m → entry k t ≤ entry (suc n) m
entry_most k n t m h l =
    let e : k + (suc n - k) ≡ suc n = omega arith in
    let f : t + (m - t) ≡ m = omega arith in
    omega (arith, rw e at (entry_kinds k t (suc n - k)), rw f at (entry_sizes n t (m - t)))
