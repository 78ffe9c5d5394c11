use mathlib.Core.Path.{sym}
use native.Mathlib.Omega.{arith}
use lib.Seq.{length-take-le}
use Rattle.run_recipe.proofs.Whole.{Loads, has_run, load_refused, loaded_inside, loaded_stands, loaded_starts, second_short}
use Rattle.run_recipe.proofs.run.Goals as goal
use Rattle.run_recipe.proofs.run.Goals.{After-load-loaded}

-- what the load answered and left
loads : (c : After-load-loaded) → Loads c.args.recipe.now c.args.first.now c.args.second.now c.load-loaded.result c.load-loaded.new.out
loads c = record {
  bytes = λ i. (c.type_inv.recipe i).fits;
  second_long = omega (arith, c.if-second-lt-MAX_LENGTH.false);
  answer = c.load-loaded.ensures.value;
  left = c.load-loaded.ensures.out_after;
}

pub returns-then-second-lt-MAX_LENGTH : goal.returns-then-second-lt-MAX_LENGTH
returns-then-second-lt-MAX_LENGTH c =
    let a = c.args in
    let (value, leaves) = second_short a.recipe.now a.turns a.first.now a.second.now c.if-second-lt-MAX_LENGTH.true in
    record { value = value; leaves = leaves }

pub returns-then-refusal-ne0 : goal.returns-then-refusal-ne0
returns-then-refusal-ne0 c =
    let (value, leaves) = load_refused c.args.turns (loads (goal.at.returns-then-refusal-ne0 c).After-load-loaded) c.if-refusal-ne0.true in
    record { value = value; leaves = leaves }

pub slice_bounds-count_nodes-end : goal.slice_bounds-count_nodes-end
slice_bounds-count_nodes-end c = loaded_inside c.args.turns (loads (goal.at.slice_bounds-count_nodes-end c).After-load-loaded) c.if-refusal-ne0.false

pub slice_bounds-count_nodes-end-2 : goal.slice_bounds-count_nodes-end-2
slice_bounds-count_nodes-end-2 c =
    sym (length-take-le _ _ (loaded_inside c.args.turns (loads (goal.at.slice_bounds-count_nodes-end-2 c).After-load-loaded) c.if-refusal-ne0.false))

pub count_nodes-nodes-requires : goal.count_nodes-nodes-requires
count_nodes-nodes-requires c = loaded_stands c.args.turns (loads (goal.at.count_nodes-nodes-requires c).After-load-loaded) c.if-refusal-ne0.false

pub run_turns-requires : goal.run_turns-requires
run_turns-requires c =
    loaded_starts c.args.turns (loads (goal.at.run_turns-requires c).After-load-loaded) c.if-refusal-ne0.false _ c.count_nodes-nodes.ensures c.load-loaded.auto.out

pub returns : goal.returns
returns c =
    let (value, leaves) = has_run c.args.turns (loads (goal.at.returns c).After-load-loaded) c.if-refusal-ne0.false _ _ _ c.run_turns.ensures.value c.run_turns.ensures.holds in
    record { value = value; leaves = leaves }
