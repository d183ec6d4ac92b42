-- The three demands, proved as the model states them.
use Rattle.theory.specs.Demands.{Demands}
use Rattle.theory.proofs.Verdicts.{demand2, demand3}
use Rattle.theory.proofs.Answers.{demand1}

pub demands {ℓ} : Demands {ℓ}
demands = record { demand1 = demand1; demand2 = λ m s ok i j h k. demand2 m s ok i j h k; demand3 = demand3 }
