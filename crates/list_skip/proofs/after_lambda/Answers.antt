-- `list_skip::after_lambda` meets its contract (proofs/Codes.antt).
use Rattle.list_skip.proofs.Codes.{lambda_jump}
use Rattle.list_skip.proofs.after_lambda.Goals as goal

pub returns : goal.returns
returns c = lambda_jump _ _ _ _ _ c.requires.1 c.next_number.ensures
