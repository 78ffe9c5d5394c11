-- Document 02, T-09: causes 20 and 21 bay by bay (proofs/Settings, `cause_20_is`; proofs/Shares, `cause_21_is`), and cause 20 node by node (proofs/Owning, `own_of`).
use Rattle.std.specs.Prelude.{Bool, cond, true, List, ◌+◌, ℕ, eqb, leb}
use Rattle.calculus.specs.Image.{nodes}
use Rattle.calculus.specs.Profile.{names_only}
use Rattle.calculus.specs.Shares.{nodes_share}
use Rattle.term.specs.Forms.{to_name}
use Rattle.recipe_file.specs.File.{bays}
use Rattle.check_spec.specs.Bays.{bay_term}

-- the operand of a node is `own`, where it is a name
unfoldable pub own_operand : ℕ → ℕ → ℕ → Bool
own_operand own refers arg = cond (eqb refers to_name) (eqb arg own) true

-- "bay k's terms name only setting k"
unfoldable pub bay_owns : List ℕ → ℕ → Bool
bay_owns s bay = names_only bay (bay_term s bay)

-- the nodes that a bay starts with: its setting's and its term's
unfoldable pub starting_nodes : List ℕ → ℕ → ℕ
starting_nodes s bay = 1 + nodes (bay_term s bay)

-- these are within the bay's share of nodes
unfoldable pub bay_fits : List ℕ → ℕ → Bool
bay_fits s bay = leb (starting_nodes s bay) (nodes_share (bays s))
