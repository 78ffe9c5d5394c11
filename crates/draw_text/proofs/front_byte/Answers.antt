-- `draw_text::front_byte` meets its contract.
use mathlib.Core.Path.{sym}
use native.Mathlib.Omega.{arith}
use lib.ListN.{get_or-eq_default}
use Rattle.draw_text.proofs.front_byte.Goals as goal

pub returns : goal.returns
returns c = sym (get_or-eq_default c.args.input.now 0 (omega (arith, c.if-at-input.false)))
