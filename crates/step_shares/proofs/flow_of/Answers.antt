-- `step_shares::flow_of` meets its contract.
use mathlib.Core.Path.{ap}
use Prim.Native.Nat.{◌≤◌}
use native.Mathlib.Omega.{arith}
use Rattle.calculus.specs.Image.{nodes_all}
use Rattle.calculus.specs.Limits.{max_nodes}
use Rattle.image.specs.Configuration.{config_of}
use Rattle.step_rules.specs.declared.Carried.{Carried}
use Rattle.step_rules.proofs.Theory.Reading.{rules}
use Rattle.step_shares.proofs.Changing.{changed, few_after, no_fewer, small}
use Rattle.step_shares.proofs.flow_of.Goals as goal

pub bay_at-requires : goal.bay_at-requires
bay_at-requires c = c.requires.stepped.movable.thread_below

pub overflow_sub-result : goal.overflow_sub-result
overflow_sub-result c = omega (arith, no_fewer c.args.image.counted c.requires, c.names_of.ensures.0)

pub overflow_add-result : goal.overflow_add-result
overflow_add-result c =
    omega (arith, (few_after c.args.image.counted c.requires).1, (small c.requires.stepped.movable).1, ap (λ (e : Carried). e.lost) c.carried_of-carried.ensures)

pub overflow_add-result-2 : goal.overflow_add-result-2
overflow_add-result-2 c =
    let few-all : nodes_all (config_of c.args.image.bytes.now) ≤ max_nodes = (rules c.args.image.bytes.now c.args.image.fit c.args.image.stands).limits.few_nodes in
    omega (arith, few-all, c.args.image.counted, (small c.requires.stepped.movable).0, ap (λ (e : Carried). e.gained) c.carried_of-carried.ensures)

pub bay_at-requires-2 : goal.bay_at-requires-2
bay_at-requires-2 c =
    omega (arith, c.requires.stepped.carries.there, ap (λ (e : Carried). e.name) c.carried_of-carried.ensures)

pub returns : goal.returns
returns c =
    let few-all : nodes_all (config_of c.args.image.bytes.now) ≤ max_nodes = (rules c.args.image.bytes.now c.args.image.fit c.args.image.stands).limits.few_nodes in
    changed c.args.image.counted c.requires few-all c.carried_of-carried.ensures c.bay_at.ensures.0 c.bay_at-2.ensures.0 c.names_of.ensures.0
