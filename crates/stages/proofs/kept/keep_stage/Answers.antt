use Rattle.std.proofs.Common.{arith, ◌≡◌}
use Rattle.stages.proofs.Keeping.{kept_more}
use Rattle.stages.proofs.kept.keep_stage.Goals as goal

pub loop-kind-preserved : goal.loop-kind-preserved
loop-kind-preserved c = kept_more c.loop-kind.invariant c.keep_kind.ensures

pub returns : goal.returns
returns c =
    let all : c.loop-kind.kind ≡ c.args.kinds = omega arith in
    rw all at c.loop-kind.invariant
