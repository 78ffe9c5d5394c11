-- `check_separate::bay_fits` meets its contract.
use Rattle.term.proofs.Views.{some_unless}
use mathlib.Core.Path.{◌≡◌, sym, ◌∙◌, ap₂}
use native.Mathlib.Omega.{arith}
use lib.Dec.{leb}
use Rattle.calculus.specs.Image.{nodes}
use Rattle.calculus.specs.Shares.{nodes_share}
use Rattle.term.specs.Expressions.{term_at}
use Rattle.term_scan.proofs.Answers.{not_refused, scanned_nodes}
use Rattle.check_separate.specs.Tests.{bay_fits}
use Rattle.check_separate.proofs.Known.{few_nodes, good_part, some_bay, starts_with}
use Rattle.check_separate.proofs.bay_fits.Goals as goal

pub nonzero_div-share : goal.nonzero_div-share
nonzero_div-share c = omega (arith, c.bays-share.ensures, some_bay _ c.requires.0)

pub unwrap-found-requires : goal.unwrap-found-requires
unwrap-found-requires c = some_unless c.scan.result (λ e. let p = c.requires in
    (not_refused (good_part _ p.0 p.1 c.term-term.ensures) (sym e ∙ c.scan.ensures)))

pub overflow_add-result : goal.overflow_add-result
overflow_add-result c =
    let is-nodes : c.unwrap-found.result.nodes ≡ nodes (term_at c.term-term.result.now 0) = let p = c.requires in
    scanned_nodes (good_part _ p.0 p.1 c.term-term.ensures) (sym c.unwrap-found.ensures ∙ c.scan.ensures) in
    omega (arith, is-nodes, few_nodes _ c.requires.0 c.requires.1 c.term-term.ensures, c.well_formed.0.1)

pub returns : goal.returns
unfolding bay_fits
returns c =
    let is-nodes : c.unwrap-found.result.nodes ≡ nodes (term_at c.term-term.result.now 0) = let p = c.requires in
    scanned_nodes (good_part _ p.0 p.1 c.term-term.ensures) (sym c.unwrap-found.ensures ∙ c.scan.ensures) in
    ap₂ (λ n b. leb n (nodes_share b)) (starts_with _ _ c.term-term.ensures is-nodes) c.bays-share.ensures
