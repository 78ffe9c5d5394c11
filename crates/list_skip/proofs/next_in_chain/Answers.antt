-- `list_skip::next_in_chain` meets its contract (proofs/Numbers.antt).
use mathlib.Core.Path.{◌≡◌, sym, ◌∙◌}
use Rattle.list_place.proofs.Pushing.{want_some}
use Rattle.list_skip.proofs.Numbers.{by_chain, one_further}
use Rattle.list_skip.proofs.next_in_chain.Goals as goal

pub returns-then-number-eq0 : goal.returns-then-number-eq0
returns-then-number-eq0 c =
    let p = c.requires in
    let z : c.args.number ≡ 0 = c.if-number-eq0.true in
    by_chain _ _ _ _ _ p.0.byte p.1.1.1 _ (rw z (p.0.known.first _ _ _ p.1.0 p.1.1.0 p.0.band_below p.1.1.1)) _ c.found_in.ensures.0 c.found_in.ensures.1

pub returns-then-not-is_met : goal.returns-then-not-is_met
returns-then-not-is_met c = one_further _ _ _ _ _ c.requires.0.byte

pub returns : goal.returns
returns c =
    let p = c.requires in
    let m = sym c.is_met.ensures ∙ c.if-not-is_met.false in
    by_chain _ _ _ _ _ p.0.byte p.1.1.1 _ (p.0.known.next _ _ _ _ p.1.0 p.1.1.0 p.0.band_below p.1.1.1 p.0.byte (rw (want_some _ p.1.1.1) at m)) _
    c.found_in-2.ensures.0 c.found_in-2.ensures.1
