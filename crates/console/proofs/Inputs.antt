-- What of an input was read.
use Rattle.std.proofs.Common.{◌≡◌, sym, ap, ◌∙◌, ℕ, ◌≤◌, ◌<◌, List, [], ◌++◌, arith, length, take, append-nil, take_all, length-take-le}
use native.Mathlib.Decide.{dec_lt}
use lib.Seq.{take_at}

-- Bytes that were read to a buffer until it was full or the input ended are the input's first ones, as many as the buffer has room for.
pub read_front : (limit n : ℕ) (s rest xs : List ℕ) → s ≡ take n xs ++ rest → n ≤ length xs → length xs ≡ limit → (n < limit → rest ≡ []) → take n xs ≡ take limit s
read_front limit n s rest xs joined within long ended = go (dec_lt n limit)
  where
    len : length (take n xs) ≡ n
    len = length-take-le n xs within

    go : Dec (n < limit) → take n xs ≡ take limit s
    go (yes h) =
        let whole : s ≡ take n xs = joined ∙ ap (λ l. take n xs ++ l) (ended h) ∙ append-nil (take n xs) in
        sym (take_all limit s (omega (arith, len, ap length whole)) ∙ whole)
    go (no h) = sym (ap (take limit) joined ∙ take_at (take n xs) rest limit (omega (arith, len)))
