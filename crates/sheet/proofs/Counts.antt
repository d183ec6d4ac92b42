-- Lists of counts, over any number of kinds.
use mathlib.Core.List.{List}
use mathlib.Core.Path.{◌≡◌, sym, ◌∙◌, ap, fun_ext}
use Prim.Native.Nat.{ℕ, ◌+◌, ◌≤◌, ◌<◌}
use native.Mathlib.Decide.{dec_lt, ℕ_discrete}
use native.Mathlib.Omega.{arith}
use lib.ListN.{length, get_or, set, take, drop, replicate, length-take, length-drop, length-set, length-replicate, get_or-replicate}
use lib.Seq.{ext_get_or, get_or-take, get_or-drop, get_or-set_same, get_or-set_other}
use Rattle.model.specs.Finite.{list_from}
use Rattle.model.specs.Field.{at}
use Rattle.model.specs.Sheet.{byte, counts}
pub use Rattle.model.proofs.Plain.{counts_below, counts_past}
use Rattle.theory.proofs.Lists.{length_from, get_d_from, get_d_past}

-- A list of m counts of n kinds, m no fewer, is the field of them.
pub at_counts : (n m : ℕ) (f : ℕ → ℕ) → n ≤ m → at (list_from (counts n f) 0 m) ≡ counts n f
at_counts n m f h = fun_ext (λ k. go k (dec_lt k m))
  where
    go : (k : ℕ) → Dec (k < m) → get_or (list_from (counts n f) 0 m) k 0 ≡ counts n f k
    go k (yes l) = let z : 0 + k ≡ k = omega arith in get_d_from (counts n f) 0 m k 0 l ∙ ap (counts n f) z
    go k (no l) = get_d_past (counts n f) 0 m k 0 (omega arith) ∙ sym (counts_past n f k (omega arith))

-- One count more is told of n + 1 kinds: the others stay.
pub counts_next : (f : ℕ → ℕ) (n k : ℕ) → (k ≡ n → ⊥) → counts n f k ≡ counts (n + 1) f k
counts_next f n k d = go (dec_lt k n)
  where
    go : Dec (k < n) → counts n f k ≡ counts (n + 1) f k
    go (yes h) = counts_below n f k h ∙ sym (counts_below (n + 1) f k (omega arith))
    go (no h) = counts_past n f k (omega arith) ∙ sym (counts_past (n + 1) f k (omega arith))

-- A list is that of its own counts.
pub from_at : (xs : List ℕ) → xs ≡ list_from (at xs) 0 (length xs)
from_at xs = ext_get_or 0 xs (list_from (at xs) 0 (length xs)) (sym (length_from (at xs) 0 (length xs))) each
  where
    each : (k : ℕ) → k < length xs → get_or xs k 0 ≡ get_or (list_from (at xs) 0 (length xs)) k 0
    each k l = let z : 0 + k ≡ k = omega arith in sym (get_d_from (at xs) 0 (length xs) k 0 l ∙ ap (at xs) z)

-- A list with one count set is that of a function which differs there alone.
pub from_set : (f g : ℕ → ℕ) (m i v : ℕ) → i < m → v ≡ g i → ((k : ℕ) → (k ≡ i → ⊥) → f k ≡ g k) → set (list_from f 0 m) i v ≡ list_from g 0 m
from_set f g m i v h e same = ext_get_or 0 (set (list_from f 0 m) i v) (list_from g 0 m) (set_length ∙ sym (length_from g 0 m)) each
  where
    set_length : length (set (list_from f 0 m) i v) ≡ m
    set_length = length-set (list_from f 0 m) i v ∙ length_from f 0 m

    go : (k : ℕ) → k < m → Dec (k ≡ i) → get_or (set (list_from f 0 m) i v) k 0 ≡ g k
    go k l (yes q) = rw q (get_or-set_same (list_from f 0 m) i v 0 (rw (length_from f 0 m) h) ∙ e)
    go k l (no q) =
        let z : 0 + k ≡ k = omega arith in
        get_or-set_other (list_from f 0 m) i k v 0 q ∙ get_d_from f 0 m k 0 l ∙ ap f z ∙ same k q

    each : (k : ℕ) → k < length (set (list_from f 0 m) i v) → get_or (set (list_from f 0 m) i v) k 0 ≡ get_or (list_from g 0 m) k 0
    each k l =
        let b : k < m = omega (arith, set_length) in
        let z : 0 + k ≡ k = omega arith in
        go k b (ℕ_discrete k i) ∙ sym (get_d_from g 0 m k 0 b ∙ ap g z)

-- A list of counts filled from the front: all 0 at first, then one count more at each step.
pub counts_none : (f : ℕ → ℕ) (m : ℕ) → replicate m 0 ≡ list_from (counts 0 f) 0 m
counts_none f m = ext_get_or 0 zeros (list_from (counts 0 f) 0 m) (zeros_length ∙ sym (length_from (counts 0 f) 0 m)) each
  where
    zeros : List ℕ
    zeros = replicate m 0

    zeros_length : length zeros ≡ m
    zeros_length = length-replicate m 0

    each : (k : ℕ) → k < length zeros → get_or zeros k 0 ≡ get_or (list_from (counts 0 f) 0 m) k 0
    each k l =
        let b : k < m = omega (arith, zeros_length) in
        get_or-replicate m k 0 0 b ∙ sym (get_d_from (counts 0 f) 0 m k 0 b ∙ counts_past 0 f (0 + k) (omega arith))

pub counts_more : (f : ℕ → ℕ) (m i v : ℕ) (g : List ℕ) → i < m → g ≡ list_from (counts i f) 0 m → v ≡ f i → set g i v ≡ list_from (counts (i + 1) f) 0 m
counts_more f m i v g h e d =
    rw e (from_set (counts i f) (counts (i + 1) f) m i v h (d ∙ sym (counts_below (i + 1) f i (omega arith))) (counts_next f i))

-- A part of n bytes is the list of its counts.
pub part_counts : (s : List ℕ) (a n : ℕ) → a + n ≤ length s → take n (drop a s) ≡ list_from (counts n (λ k. byte s (a + k))) 0 n
part_counts s a n h = ext_get_or 0 (take n (drop a s)) (list_from f 0 n) (long ∙ sym (length_from f 0 n)) each
  where
    f : ℕ → ℕ
    f = counts n (λ k. byte s (a + k))

    long : length (take n (drop a s)) ≡ n
    long = simp (length-take, length-drop) (omega arith)

    each : (k : ℕ) → k < length (take n (drop a s)) → get_or (take n (drop a s)) k 0 ≡ get_or (list_from f 0 n) k 0
    each k l =
        let b : k < n = omega (arith, long) in
        let z : 0 + k ≡ k = omega arith in
        get_or-take n (drop a s) k 0 b ∙ get_or-drop a s k 0 ∙ sym (get_d_from f 0 n k 0 b ∙ ap f z ∙ counts_below n (λ k. byte s (a + k)) k b)
