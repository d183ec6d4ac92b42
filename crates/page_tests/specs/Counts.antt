-- A count of bytes at the front of a buffer, as crate `io` of the kit has it.
use Rattle.std.specs.Prelude.{List, ◌≡◌, ℕ, ◌≤◌, length, take}

-- The first n bytes of xs lie in it, and there are n of them. (The second part follows from the first, and spares who lends `&xs[..n]` a proof.)
abbrev pub IsPrefixLen : ℕ → List ℕ → Type 0
IsPrefixLen n xs = (n ≤ length xs) × (n ≡ length (take n xs))
