-- `step_shares::name_nodes` meets its contract.
use mathlib.Core.Path.{◌∙◌, ap}
use Prim.Native.Nat.{ℕ}
use Rattle.calculus.specs.Image.{nodes}
use Rattle.term.specs.Expressions.{term_at}
use Rattle.image_layout.proofs.Theory.Reading.{has_head}
use Rattle.image_check.proofs.Theory.Whole.{whole_sound}
use Rattle.step_shares.proofs.NameNodes.{bare_nodes, whole_nodes}
use Rattle.step_shares.proofs.name_nodes.Goals as goal

pub kind_at-requires : goal.kind_at-requires
kind_at-requires c = has_head _ (whole_sound _ c.args.image.stands).heads _ c.requires

pub returns-then-kind_at-gt-CELL : goal.returns-then-kind_at-gt-CELL
returns-then-kind_at-gt-CELL c =
    bare_nodes _ c.args.image.fit c.args.image.stands _ c.requires c.kind_at.ensures c.if-kind_at-gt-CELL.true

pub offset_at-requires : goal.offset_at-requires
offset_at-requires c = has_head _ (whole_sound _ c.args.image.stands).heads _ c.requires

pub nodes_at-requires : goal.nodes_at-requires
nodes_at-requires c =
    rw c.offset_at.ensures.0 (whole_nodes _ c.args.image.fit c.args.image.stands _ c.requires c.kind_at.ensures c.if-kind_at-gt-CELL.false).0

pub returns : goal.returns
returns c =
    c.nodes_at.ensures
    ∙ ap (λ (at : ℕ). nodes (term_at c.args.image.bytes.now at)) c.offset_at.ensures.0
    ∙ (whole_nodes _ c.args.image.fit c.args.image.stands _ c.requires c.kind_at.ensures c.if-kind_at-gt-CELL.false).1
