-- The version of the library: its three parts, and one number of them.
use Rattle.std.specs.Prelude.{ℕ, ◌+◌, ◌*◌}

abbrev pub major : ℕ
major = 0

abbrev pub minor : ℕ
minor = 10

abbrev pub patch : ℕ
patch = 0

abbrev pub version : ℕ
version = 10000 * major + 100 * minor + patch
