-- `step_shares::tally_of` meets its contract. The loop's invariant: the names passed are counted (proofs/Columns.antt).
use native.Mathlib.Omega.{arith}
use Rattle.image_layout.proofs.Theory.Reading.{has_names}
use Rattle.image_check.proofs.Theory.Whole.{whole_sound}
use Rattle.step_shares.proofs.Columns.{counting_all, counting_none, counting_one, few_found, few_names, few_nodes, next_below}
use Rattle.step_shares.proofs.tally_of.Goals as goal

pub names_of-all-requires : goal.names_of-all-requires
names_of-all-requires c = has_names _ (whole_sound _ c.args.image.stands).heads

pub loop-k-init : goal.loop-k-init
loop-k-init c = counting_none _ _ c.names_of-all.ensures.0

pub bay_at-owner-requires : goal.bay_at-owner-requires
bay_at-owner-requires c = next_below c.loop-k.invariant c.args.image.stands c.loop-k-test.true

pub name_nodes-found-requires : goal.name_nodes-found-requires
name_nodes-found-requires c = next_below c.loop-k.invariant c.args.image.stands c.loop-k-test.true

pub overflow_add-names : goal.overflow_add-names
overflow_add-names c = omega (arith, few_names c.loop-k.invariant c.args.image.stands _ c.bay_at-owner.ensures.1)

pub overflow_add-nodes : goal.overflow_add-nodes
overflow_add-nodes c =
    omega (
      arith,
      few_nodes c.loop-k.invariant c.args.image.stands _ c.bay_at-owner.ensures.1,
      few_found c.loop-k.invariant c.args.image.stands c.loop-k-test.true c.name_nodes-found.ensures,
    )

pub loop-k-preserved : goal.loop-k-preserved
loop-k-preserved c = counting_one c.loop-k.invariant c.args.image.stands c.loop-k-test.true c.bay_at-owner.ensures.0 c.bay_at-owner.ensures.1 c.name_nodes-found.ensures

pub returns : goal.returns
returns c = counting_all c.loop-k.invariant c.args.image.stands c.loop-k-test.false
