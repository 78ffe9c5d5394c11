-- `list_skip::after_constant` meets its contract (proofs/Codes.antt).
use Rattle.list_skip.proofs.Codes.{constant_jump}
use Rattle.list_skip.proofs.after_constant.Goals as goal

pub returns : goal.returns
returns c = constant_jump _ _ _ _ _ c.requires.1.0 c.requires.1.1 c.next_number.ensures
