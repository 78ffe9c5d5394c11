-- `term_scan::scan_part` meets its contract: no term has more nodes than bytes, and it is the part if it ends with it.
use mathlib.Core.Path.{sym, ◌∙◌}
use Prim.Native.Nat.{zero-le}
use native.Mathlib.Omega.{arith}
use Rattle.term_scan.proofs.Editions.{edition_all, part_is, part_over, part_refused}
use Rattle.term_scan.proofs.scan_part.Goals as goal

pub returns-in_err-found : goal.returns-in_err-found
returns-in_err-found c =
    rw c.from_residual.ensures (part_refused _ _ (sym c.in_err-found.was ∙ c.scan_within.ensures ∙ edition_all _ _ 0 zero-le _ (omega arith)))

pub returns-then-found-s : goal.returns-then-found-s
returns-then-found-s c =
    part_over _ _ _ _ (sym c.in_ok-found.was ∙ c.scan_within.ensures ∙ edition_all _ _ 0 zero-le _ (omega arith)) c.if-found-s.true

pub returns : goal.returns
returns c = part_is _ _ _ _ (sym c.in_ok-found.was ∙ c.scan_within.ensures ∙ edition_all _ _ 0 zero-le _ (omega arith)) c.if-found-s.false
