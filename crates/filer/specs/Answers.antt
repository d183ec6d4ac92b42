-- The paper's numbers and values for each case of the verdict that Compare answers with.
use Rattle.model.specs.Answer.{Answer, refused, given, Verdict as Called, same, different}
use Rattle.filer.specs.declared.answers.Verdict.{Verdict}
use Rattle.filer.specs.declared.answers.Verdict.TheVariants.{Same, Different, Refused as NotCalled}

-- Compare: "same, or different with its stage and its rounds", or the refusal.
abbrev pub verdict_of : Verdict → Answer Called
verdict_of Same = given same
verdict_of (Different stage rounds) = given (different stage rounds)
verdict_of (NotCalled number place) = refused number place
