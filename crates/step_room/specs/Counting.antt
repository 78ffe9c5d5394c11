-- What is counted of a step before a byte is written, and that no count is too large.
use Rattle.std.specs.Prelude.{◌≡◌, true, List, ℕ, ◌*◌, ◌+◌, ◌<◌, ◌≤◌, length}
use Rattle.calculus.specs.Bytes.{two_byte_values}
use Rattle.calculus.specs.Limits.{max_nodes}
use Rattle.calculus.specs.Names.{uses}
use Rattle.calculus.specs.Syntax.{Exp, var}
use Rattle.calculus.specs.Image.{nodes as nodes_of, size}
use Rattle.term_subst.specs.declared.Uses.{Uses}
use Rattle.image_layout.specs.Layout.{heads_stand}
use Rattle.step_rules.specs.declared.Step.{Step}
use Rattle.step_rules.specs.Effects.{Effect}
use Rattle.step_rules.specs.Moves.{expression_after, names_after, nodes_after}
use Rattle.step_rules.specs.Stepped.{Movable}
use Rattle.step_room.specs.declared.Count.{Count}
use Rattle.step_room.specs.declared.Size.{Size}
use Rattle.step_room.specs.declared.Weight.{Weight}

-- a step of an image that can be counted: what the step names is inside, the image keeps its layout and its limit of bytes
pub record Countable (s : List ℕ) (step : Step) : Type 0 where
  pub movable : Movable s step
  pub stands : heads_stand s ≡ true
  pub short : length s < two_byte_values

-- nodes and bytes of an expression
pub record Weighs (e : Exp) (w : Weight) : Type 0 where
  pub nodes : w.nodes ≡ nodes_of e
  pub bytes : w.bytes ≡ size e

-- a weight that a value in an image can have
pub record Light (w : Weight) : Type 0 where
  pub few : w.nodes ≤ max_nodes
  pub short : w.bytes ≤ two_byte_values

-- what comes of a body, in nodes or in bytes: no more than a value for each of its nodes, and it
abbrev pub max_outcome : ℕ
max_outcome = two_byte_values + max_nodes * two_byte_values

-- numbers from which an outcome's can be told: the places are in the body, and nothing is too large
pub record Weighable (body : ℕ) (places : Uses) (inner outer variable : ℕ) : Type 0 where
  pub few : places.inner + places.outer ≤ max_nodes
  pub within : (places.inner + places.outer) * variable ≤ body
  pub small : body + (places.inner * inner + places.outer * outer) ≤ max_outcome

-- T-05, for rules 1, 8 and 9: what is counted of a body in which values of these weights are put for its two innermost variables
pub record Substitutes (body : Exp) (inner outer : Weight) (count : Count) : Type 0 where
  pub new : count.new ≡ 0
  pub gained : count.gained + (uses 0 body + uses 1 body) * nodes_of (var 0) ≡ nodes_of body + (uses 0 body * inner.nodes + uses 1 body * outer.nodes)
  pub lost : count.lost ≡ nodes_of body + (inner.nodes + outer.nodes) + 2
  pub bytes : count.bytes + (uses 0 body + uses 1 body) * size (var 0) ≡ size body + (uses 0 body * inner.bytes + uses 1 body * outer.bytes)
  pub few_gained : count.gained ≤ max_outcome
  pub few_bytes : count.bytes ≤ max_outcome

-- what is counted of a move's effect
pub record Counts (effect : Effect) (count : Count) : Type 0 where
  pub new : count.new ≡ length effect.new
  pub gained : count.gained ≡ effect.gained
  pub lost : count.lost ≡ effect.lost
  pub bytes : count.bytes ≡ length effect.redex
  -- "takes m for the future and m + 1 for the handle"
  pub few_new : count.new ≤ 2
  pub few_gained : count.gained ≤ max_outcome
  pub few_bytes : count.bytes ≤ max_outcome

-- numbers that can be added up
pub record Sized (before : Size) (count : Count) : Type 0 where
  pub names : before.names + count.new < two_byte_values + 2
  pub nodes : before.nodes + count.gained ≤ max_nodes + max_outcome
  pub thread : before.thread + count.bytes < two_byte_values + max_outcome

-- what the writer of the image after a step is handed: its names, and the bytes of the expression of the thread that goes
pub record Handed (s : List ℕ) (step : Step) (after : Size) : Type 0 where
  pub names : after.names ≡ names_after s step
  pub thread : after.thread ≡ length (expression_after s step)

-- the image after a step, in numbers, where there were n nodes before
pub record After (s : List ℕ) (n : ℕ) (step : Step) (after : Size) : Type 0 where
  pub handed : Handed s step after
  pub nodes : after.nodes ≡ nodes_after n s step
