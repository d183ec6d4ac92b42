-- `put_pairs`: before the pair of field `later` the lines of those before it are appended.
use Prim.Native.Nat.{◌-◌, ◌*◌, ◌≤◌}
use Rattle.model.specs.Finite.{concat, list_from}
use Rattle.text.specs.Appended.{Appended}
use Rattle.verdicts.specs.Pair.{pair_at}
use Rattle.page.specs.Lengths.{most_pair}
use Rattle.page.proofs.pairs.put_pairs.Given as goal

abbrev pub invariant-loop-later : goal.invariant-loop-later
invariant-loop-later l = (l.later - 1 ≤ l.fields - 1) × Appended (most_pair * (l.later - 1)) l.initial.out l.initial.next (concat (list_from (pair_at l.sheet) 1 (l.later - 1))) l.out l.next
