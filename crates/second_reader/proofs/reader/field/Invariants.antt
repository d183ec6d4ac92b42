-- The counts below k are read.
use lib.ListN.{replicate}
use Rattle.model.specs.Sheet.{field_of}
use Rattle.second_reader.proofs.Counts.{Filled}
use Rattle.second_reader.proofs.reader.field.Given as goal

abbrev pub invariant-loop-kind : goal.invariant-loop-kind
invariant-loop-kind l = Filled (field_of l.sheet l.number) (λ _. 65535) (replicate 32 0) l.counts l.kind
