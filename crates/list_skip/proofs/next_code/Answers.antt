-- `list_skip::next_code` meets its contract (proofs/Codes.antt).
use Rattle.list_skip.proofs.Codes.{past_applications, past_names}
use Rattle.list_skip.proofs.next_code.Goals as goal

pub returns-then-tag-eq-LAMBDA : goal.returns-then-tag-eq-LAMBDA
returns-then-tag-eq-LAMBDA c = c.after_lambda.ensures.at_goal _ _ _ c.requires.1.0

pub returns-then-tag-eq-APPLICATION : goal.returns-then-tag-eq-APPLICATION
returns-then-tag-eq-APPLICATION c = rw c.after_application.ensures (past_applications c.requires.1.0 _ _ _ c.if-tag-eq-APPLICATION.true)

pub returns-then-tag-gt-HANDLE : goal.returns-then-tag-gt-HANDLE
returns-then-tag-gt-HANDLE c = past_names c.requires.1.0 _ _ _ c.if-tag-gt-HANDLE.true c.requires.1.1

pub returns-then-tag-ge-CELL : goal.returns-then-tag-ge-CELL
returns-then-tag-ge-CELL c = c.after_constant.ensures.at_goal _ _ _ c.requires.1.0

pub returns : goal.returns
returns c = c.after_small.ensures.at_goal _ _ _ c.requires.1.0
