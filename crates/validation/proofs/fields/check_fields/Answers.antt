-- Each return is a case of the definition.
use Rattle.std.proofs.lemmas.Result.{err_from_is_err_and}
use Rattle.validation.proofs.FieldNumbers.{stays_refused, first_stops, second_stops, both_pass}
use Rattle.validation.proofs.fields.check_fields.Goals as goal

pub returns-in_err-card : goal.returns-in_err-card
returns-in_err-card c =
    let p = err_from_is_err_and c.from_residual.result c.from_residual.ensures.1 in
    rw (p.1, p.2) (stays_refused _ _ _ _ c.in_err-card.was)

pub returns-then-card-first : goal.returns-then-card-first
returns-then-card-first c = first_stops _ _ _ _ c.in_ok-card.was c.if-card-first.true

pub returns-then-card-second : goal.returns-then-card-second
returns-then-card-second c = second_stops _ _ _ _ c.in_ok-card.was c.if-card-first.false c.if-card-second.true

pub returns : goal.returns
returns c = both_pass _ _ _ _ c.in_ok-card.was c.if-card-first.false c.if-card-second.false
