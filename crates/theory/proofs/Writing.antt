-- A loop that stores the entries of a list to the front of a buffer, one by one; the entries that an array begins with.
use mathlib.Core.List.{List, ◌++◌, append-nil}
use mathlib.Core.Path.{◌≡◌, refl, sym, ◌∙◌, ap}
use Prim.Native.Nat.{ℕ, suc, ◌+◌, ◌≤◌, ◌<◌}
use native.Mathlib.Numerals.{add-one}
use native.Mathlib.Omega.{arith}
use lib.ListN.{length, get_or, set, take, drop_of_length-le}
use lib.Seq.{paste, paste-zero, paste-suc, length-paste, take-length, ext_get_or, length-take-le, get_or-take}
use Rattle.model.specs.Finite.{list_from}
use Rattle.model.specs.Field.{at}
use Rattle.model.specs.Answer.{written}
use Rattle.theory.proofs.Lists.{length_from, get_d_from}

-- The buffer after the first i stores: there is room for all, and there are no more stores than entries.
pub record Begun (xs buffer : List ℕ) (i : ℕ) (g : List ℕ) : Type 0 where
  pub room : length xs ≤ length buffer
  pub within : i ≤ length xs
  pub holds : g ≡ paste buffer 0 xs i

pub begun_none : (xs buffer : List ℕ) → length xs ≤ length buffer → Begun xs buffer 0 buffer
begun_none xs buffer h = record { room = h; within = omega arith; holds = paste-zero buffer 0 xs }

module _ {xs buffer : List ℕ} {i : ℕ} {g : List ℕ} (B : Begun xs buffer i g) where
  pub begun_more : (v : ℕ) → i < length xs → v ≡ get_or xs i 0 → Begun xs buffer (i + 1) (set g i v)
  begun_more v h d = record { room = B.room; within = omega arith; holds = rw (d, B.holds, add-one) store }
    where
      z : 0 + i ≡ i
      z = omega arith

      store : set (paste buffer 0 xs i) i (get_or xs i 0) ≡ paste buffer 0 xs (suc i)
      store = ap (λ (k : ℕ). set (paste buffer 0 xs i) k (get_or xs i 0)) (sym z) ∙ paste-suc buffer 0 xs i 0 (omega (arith, B.room)) h

  pub begun_length : length g ≡ length buffer
  begun_length = rw B.holds (length-paste buffer 0 xs i (omega (arith, B.within, B.room)) B.within)

  pub begun_all : length xs ≤ i → g ≡ written xs buffer
  unfolding written
  begun_all h =
      let k : i ≡ length xs = omega (arith, B.within) in
      let z : 0 + length xs ≡ length xs = omega arith in
      rw (B.holds, k, take-length, z) refl

-- The first n counts of an array are a part of it.
pub first_counts : (xs : List ℕ) (n : ℕ) → n ≤ length xs → take n xs ≡ list_from (at xs) 0 n
first_counts xs n h = ext_get_or 0 (take n xs) (list_from (at xs) 0 n) (length-take-le n xs h ∙ sym (length_from (at xs) 0 n)) each
  where
    each : (k : ℕ) → k < length (take n xs) → get_or (take n xs) k 0 ≡ get_or (list_from (at xs) 0 n) k 0
    each k l =
        let q : k < n = omega (arith, length-take-le n xs h) in
        let z : 0 + k ≡ k = omega arith in
        get_or-take n xs k 0 q ∙ sym (get_d_from (at xs) 0 n k 0 q ∙ ap (at xs) z)

-- What is written to a buffer of its own length is the whole of it.
pub written_whole : (xs buffer : List ℕ) → length xs ≡ length buffer → written xs buffer ≡ xs
unfolding written
written_whole xs buffer e = ap (λ (l : List ℕ). xs ++ l) (drop_of_length-le buffer {i = length xs} (omega arith)) ∙ append-nil xs
