-- `image_check::expression_nodes` meets its contract: a law for each return.
use mathlib.Core.Path.{sym, ◌∙◌}
use Prim.Native.Nat.{zero-le}
use Rattle.image_check.proofs.Expressions.{bytes_over, found, refused}
use Rattle.image_check.proofs.expression_nodes.Goals as goal

pub scan_scoped-requires : goal.scan_scoped-requires
scan_scoped-requires c = (zero-le, c.requires)

pub returns-in_err-found : goal.returns-in_err-found
returns-in_err-found c = rw c.from_residual.ensures (refused _ _ _ (λ i. (c.type_inv.expression i).fits) (sym c.in_err-found.was ∙ c.scan_scoped.ensures))

pub returns-then-found-expression : goal.returns-then-found-expression
returns-then-found-expression c = bytes_over _ _ _ (λ i. (c.type_inv.expression i).fits) _ _ (sym c.in_ok-found.was ∙ c.scan_scoped.ensures) c.if-found-expression.true

pub returns : goal.returns
returns c = found _ _ _ (λ i. (c.type_inv.expression i).fits) _ _ (sym c.in_ok-found.was ∙ c.scan_scoped.ensures) c.if-found-expression.false
