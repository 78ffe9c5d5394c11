-- `step_shares::bays_of` meets its contract. The loop's invariant: one more than the highest owner of the names passed (proofs/Highest.antt).
use Rattle.image_layout.proofs.Theory.Reading.{has_names}
use Rattle.image_check.proofs.Theory.Whole.{whole_sound}
use Rattle.step_shares.proofs.Highest.{highest_all, highest_none, highest_one, next_below}
use Rattle.step_shares.proofs.bays_of.Goals as goal

pub names_of-names-requires : goal.names_of-names-requires
names_of-names-requires c = has_names _ (whole_sound _ c.args.image.stands).heads

pub loop-k-init : goal.loop-k-init
loop-k-init c = highest_none _ _ c.names_of-names.ensures.0

pub bay_at-owner-requires : goal.bay_at-owner-requires
bay_at-owner-requires c = next_below c.loop-k.invariant c.loop-k-test.true

pub loop-k-preserved : goal.loop-k-preserved
loop-k-preserved c = highest_one c.loop-k.invariant c.loop-k-test.true c.bay_at-owner.ensures.0 c.max-bays.ensures

pub returns : goal.returns
returns c = highest_all c.loop-k.invariant c.args.image.fit c.args.image.stands c.loop-k-test.false
