-- `arguments`: the words so far lie in the buffer, which keeps its length.
use Rattle.std.proofs.Common.{◌≡◌, ◌≤◌, length}
use Rattle.console.proofs.command_line.arguments.Given as goal

abbrev pub invariant-loop-i : goal.invariant-loop-i
invariant-loop-i g l = (l.next ≤ length l.words) × (length l.words ≡ length l.initial.words)
