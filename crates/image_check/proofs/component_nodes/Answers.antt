-- `image_check::component_nodes` meets its contract: a law for each return.
use mathlib.Core.Path.{sym, ◌∙◌}
use Rattle.image_check.proofs.Components.{named_expression, named_head, part_broken, part_cell, part_empty, part_good, part_thread, part_valueless}
use Rattle.image_check.proofs.component_nodes.Goals as goal

pub kind_at-kind-requires : goal.kind_at-kind-requires
kind_at-kind-requires c = named_head c.requires.0

pub returns-then-kind-gt-CELL : goal.returns-then-kind-gt-CELL
returns-then-kind-gt-CELL c = part_empty _ _ _ _ c.requires.0 c.kind_at-kind.ensures c.if-kind-gt-CELL.true

pub expression_at-expression-requires : goal.expression_at-expression-requires
expression_at-expression-requires c = named_expression c.requires.0

pub expression_nodes-requires : goal.expression_nodes-requires
expression_nodes-requires c = c.requires.1

pub returns-in_err-nodes : goal.returns-in_err-nodes
returns-in_err-nodes c =
    rw c.from_residual.ensures (part_broken _ _ _ _ c.requires.0 c.kind_at-kind.ensures c.if-kind-gt-CELL.false c.expression_at-expression.ensures
    (sym c.in_err-nodes.was ∙ c.expression_nodes.ensures))

pub returns-then-kind-eq-THREAD : goal.returns-then-kind-eq-THREAD
returns-then-kind-eq-THREAD c =
    part_thread _ _ _ _ c.requires.0 c.kind_at-kind.ensures c.if-kind-gt-CELL.false c.expression_at-expression.ensures
    _ (sym c.in_ok-nodes.was ∙ c.expression_nodes.ensures) c.if-kind-eq-THREAD.true

pub is_value-requires : goal.is_value-requires
is_value-requires c = part_good _ _ _ _ (sym c.in_ok-nodes.was ∙ c.expression_nodes.ensures)

pub returns-then-not-is_value : goal.returns-then-not-is_value
returns-then-not-is_value c =
    part_valueless _ _ _ _ c.requires.0 c.kind_at-kind.ensures c.if-kind-gt-CELL.false c.expression_at-expression.ensures
    _ (sym c.in_ok-nodes.was ∙ c.expression_nodes.ensures)
    c.if-kind-eq-THREAD.false (sym c.is_value.ensures ∙ c.if-not-is_value.true)

pub returns : goal.returns
returns c =
    part_cell _ _ _ _ c.requires.0 c.kind_at-kind.ensures c.if-kind-gt-CELL.false c.expression_at-expression.ensures
    _ (sym c.in_ok-nodes.was ∙ c.expression_nodes.ensures)
    c.if-kind-eq-THREAD.false (sym c.is_value.ensures ∙ c.if-not-is_value.false)
