-- No check of an earlier line applies.
use mathlib.Core.Path.{◌≡◌}
use Prim.Native.Nat.{ℕ, ◌<◌}
use Rattle.model.specs.Refusal.{clear, first_of}
use Rattle.validation.proofs.Checking.{of_line}
use Rattle.validation.proofs.checks.check_lines.Given as goal

abbrev pub invariant-loop-line : goal.invariant-loop-line
invariant-loop-line l = (q : ℕ) → q < l.line → first_of (of_line l.sheet q) ≡ clear
