-- `step_reduct::put_redex_after` meets its contract, rule by rule.
use mathlib.Core.Path.{ap, sym, ◌∙◌}
use native.Mathlib.Omega.{arith}
use lib.ListN.{length}
use Rattle.buffer.proofs.Theory.Writes.{known_as}
use Rattle.step_rules.specs.Effects.{bytes_between, name_bytes, effect_of}
use Rattle.step_rules.proofs.Theory.Writers.{has_by}
use Rattle.step_rules.proofs.Theory.Lengths.{redex_by, length_7}
use Rattle.step_reduct.proofs.Redexes.{names_by}
use Rattle.step_reduct.proofs.Outcomes.{Replaces, replaces_as, replaces_1, replaces_8, replaces_9}
use Rattle.step_reduct.proofs.put_redex_after.Goals as goal

pub put_body-requires : goal.put_body-requires
put_body-requires c =
    let replaces : Replaces c.args.writable.image.now c.args.writable.step c.applied.result = replaces_as c.applied.ensures (replaces_1 c.args.writable.can_write c.in-Beta.is) in
    let r = replaces in (r.whole, omega (arith, ap length r.is, c.requires))

pub put_name-requires : goal.put_name-requires
unfolding effect_of
put_name-requires c =
    let e = c.in-ThreadNew.is in
    (omega (arith, names_by c.args.writable.can_write e, c.names_of.ensures.0), omega (arith, ap length (redex_by c.args.writable.can_write.movable e), c.requires))

pub put_byte-requires : goal.put_byte-requires
unfolding effect_of
put_byte-requires c = omega (arith, ap length (redex_by c.args.writable.can_write.movable c.in-HandleBind.is), c.requires)

pub put_name-requires-in-CellNew : goal.put_name-requires-in-CellNew
unfolding effect_of
put_name-requires-in-CellNew c =
    let e = c.in-CellNew.is in
    (omega (arith, names_by c.args.writable.can_write e, c.names_of-in-CellNew.ensures.0), omega (arith, ap length (redex_by c.args.writable.can_write.movable e), c.requires))

pub put_part-requires : goal.put_part-requires
put_part-requires c =
    let w = c.args.writable.can_write in
    let e = c.in-CellExch.is in
    let v = (has_by w.movable e).1 in
    (v.onward, (v.inside, omega (arith, v.onward, length_7 w.movable e, c.requires)))

pub put_body-requires-in-CasePair : goal.put_body-requires-in-CasePair
put_body-requires-in-CasePair c =
    let replaces-pair : Replaces c.args.writable.image.now c.args.writable.step c.taken.result = replaces_as c.taken.ensures (replaces_8 c.args.writable.can_write c.in-CasePair.is) in
    let r = replaces-pair in (r.whole, omega (arith, ap length r.is, c.requires))

pub put_body-requires-in-CaseList : goal.put_body-requires-in-CaseList
put_body-requires-in-CaseList c =
    let replaces-list : Replaces c.args.writable.image.now c.args.writable.step c.taken-in-CaseList.result = replaces_as c.taken-in-CaseList.ensures (replaces_9 c.args.writable.can_write c.in-CaseList.is) in
    let r = replaces-list in (r.whole, omega (arith, ap length r.is, c.requires))

pub returns-in-Beta : goal.returns-in-Beta
returns-in-Beta c =
    let replaces : Replaces c.args.writable.image.now c.args.writable.step c.applied.result = replaces_as c.applied.ensures (replaces_1 c.args.writable.can_write c.in-Beta.is) in
    known_as c.put_body.ensures (sym replaces.is)

pub returns-in-ThreadNew : goal.returns-in-ThreadNew
unfolding effect_of
returns-in-ThreadNew c = known_as c.put_name.ensures (ap name_bytes c.names_of.ensures.0 ∙ sym (redex_by c.args.writable.can_write.movable c.in-ThreadNew.is))

pub returns-in-HandleBind : goal.returns-in-HandleBind
unfolding effect_of
returns-in-HandleBind c = known_as c.put_byte.ensures (sym (redex_by c.args.writable.can_write.movable c.in-HandleBind.is))

pub returns-in-CellNew : goal.returns-in-CellNew
unfolding effect_of
returns-in-CellNew c = known_as c.put_name-in-CellNew.ensures (ap name_bytes c.names_of-in-CellNew.ensures.0 ∙ sym (redex_by c.args.writable.can_write.movable c.in-CellNew.is))

pub returns-in-CellExch : goal.returns-in-CellExch
unfolding bytes_between effect_of
returns-in-CellExch c = known_as c.put_part.ensures (sym (redex_by c.args.writable.can_write.movable c.in-CellExch.is))

pub returns-in-CasePair : goal.returns-in-CasePair
returns-in-CasePair c =
    let replaces-pair : Replaces c.args.writable.image.now c.args.writable.step c.taken.result = replaces_as c.taken.ensures (replaces_8 c.args.writable.can_write c.in-CasePair.is) in
    known_as c.put_body-in-CasePair.ensures (sym replaces-pair.is)

pub returns-in-CaseList : goal.returns-in-CaseList
returns-in-CaseList c =
    let replaces-list : Replaces c.args.writable.image.now c.args.writable.step c.taken-in-CaseList.result = replaces_as c.taken-in-CaseList.ensures (replaces_9 c.args.writable.can_write c.in-CaseList.is) in
    known_as c.put_body-in-CaseList.ensures (sym replaces-list.is)
