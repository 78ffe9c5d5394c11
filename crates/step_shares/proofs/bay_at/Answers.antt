-- `step_shares::bay_at` meets its contract.
use native.Mathlib.Omega.{arith}
use Rattle.image.proofs.Theory.Exactly.{has_owner}
use Rattle.step_shares.proofs.Highest.{owner_small}
use Rattle.step_shares.proofs.bay_at.Goals as goal

pub owner_at-requires : goal.owner_at-requires
owner_at-requires c = has_owner _ c.args.image.fit c.args.image.stands _ c.requires

pub returns : goal.returns
returns c = (c.owner_at.ensures, omega (arith, c.owner_at.ensures, owner_small _ c.args.image.fit c.args.image.stands _ c.requires))
