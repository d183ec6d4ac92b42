-- What the sense gives.
use Rattle.filer.proofs.form.prime_form.Goals as goal

pub returns : goal.returns
returns c = c.form_in.ensures
