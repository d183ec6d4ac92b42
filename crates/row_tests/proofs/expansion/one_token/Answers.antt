-- One count is set in an array of zeros.
use Rattle.tables.proofs.Products.{token_counts}
use Rattle.row_tests.proofs.expansion.one_token.Goals as goal

pub returns : goal.returns
returns c = token_counts 32 c.args.kind c.requires
