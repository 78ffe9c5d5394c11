-- `term::form_of` meets its contract: the table in the code is the table of `specs/`.
use Rattle.term.proofs.Packed.{unpacked_form}
use Rattle.term.proofs.form_of.Goals as goal

pub returns : goal.returns
returns c = unpacked_form c.args.tag c.requires
