use native.Mathlib.Omega.{arith}
use Rattle.std.proofs.Common.{◌∙◌, ap, Err}
use Rattle.image_layout.proofs.Theory.Reading.{has_names}
use Rattle.image_check.proofs.Theory.Whole.{whole_sound}
use Rattle.run_turn.proofs.Along.{round_goes, round_met, round_on}
use Rattle.run_turn.proofs.go_round.Goals as goal

pub names_of-names-requires : goal.names_of-names-requires
names_of-names-requires c = omega (arith, has_names _ (whole_sound _ c.args.image.stands).heads)

pub returns-in-Ok : goal.returns-in-Ok
returns-in-Ok c = round_goes _ _ c.names_of-names.ensures.0 c.look_along.ensures c.in-Ok.is

pub returns-in-Err-Nobody : goal.returns-in-Err-Nobody
returns-in-Err-Nobody c = round_on _ _ c.names_of-names.ensures.0 c.look_along.ensures (c.in-Err-Nobody.is ∙ ap Err c.in-Err-Nobody.field-0-is) c.look_along-in-Err-Nobody.ensures

pub returns-in-Err-Met : goal.returns-in-Err-Met
returns-in-Err-Met c = round_met _ _ c.names_of-names.ensures.0 c.look_along.ensures (c.in-Err-Met.is ∙ ap Err c.in-Err-Met.field-0-is)
