-- `step_write::owner_after` meets its contract.
use mathlib.Core.Path.{◌∙◌, sym}
use native.Mathlib.Omega.{arith}
use Rattle.step_write.proofs.Names.{old_owner, new_owner}
use Rattle.step_write.proofs.owner_after.Goals as goal

pub owner_at-requires : goal.owner_at-requires
owner_at-requires c = c.args.writable.can_write.owners _ (omega (arith, c.if-k-names_of.true, c.names_of.ensures.0))

pub returns-then-k-names_of : goal.returns-then-k-names_of
returns-then-k-names_of c = c.owner_at.ensures ∙ sym (old_owner c.args.writable.image.now c.args.writable.step c.args.k (omega (arith, c.if-k-names_of.true, c.names_of.ensures.0)))

pub owner_at-requires-2 : goal.owner_at-requires-2
owner_at-requires-2 c = c.args.writable.can_write.owners _ c.args.writable.can_write.movable.thread_below

pub returns : goal.returns
returns c = c.owner_at-2.ensures ∙ sym (new_owner c.args.writable.image.now c.args.writable.step c.args.k (omega (arith, c.if-k-names_of.false, c.names_of.ensures.0)))
