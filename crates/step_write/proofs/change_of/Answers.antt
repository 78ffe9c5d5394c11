-- `step_write::change_of` meets its contract, rule by rule.
use mathlib.Core.Path.{refl}
use native.Mathlib.Omega.{arith}
use Rattle.step_rules.specs.Effects.{effect_of, taken_apart}
use Rattle.step_reduct.proofs.Redexes.{names_by}
use Rattle.step_write.proofs.Names.{it_goes, by_none, by_thread, by_handle, by_bind, by_cell, by_exchange}
use Rattle.step_write.proofs.change_of.Goals as goal

pub returns-then-k-writable : goal.returns-then-k-writable
returns-then-k-writable c = it_goes _ _ _ c.if-k-writable.true

pub overflow_cast-future : goal.overflow_cast-future
unfolding effect_of
overflow_cast-future c = omega (arith, names_by c.args.writable.can_write c.in-HandleNew.is, c.names_of-names.ensures.0)

pub returns-in-Beta : goal.returns-in-Beta
unfolding effect_of
returns-in-Beta c = by_none _ _ _ c.args.writable.can_write c.requires c.if-k-writable.false c.in-Beta.is refl refl

pub returns-in-ThreadNew : goal.returns-in-ThreadNew
returns-in-ThreadNew c = by_thread _ _ _ c.args.writable.can_write c.requires c.if-k-writable.false c.names_of-names.ensures.0 c.in-ThreadNew.is c.when.ensures

pub returns-in-FutureDeref : goal.returns-in-FutureDeref
unfolding effect_of
returns-in-FutureDeref c = by_none _ _ _ c.args.writable.can_write c.requires c.if-k-writable.false c.in-FutureDeref.is refl refl

pub returns-in-HandleNew : goal.returns-in-HandleNew
returns-in-HandleNew c = by_handle _ _ _ c.args.writable.can_write c.requires c.if-k-writable.false c.names_of-names.ensures.0 c.in-HandleNew.is c.when-handle.ensures c.when-in-HandleNew.ensures

pub returns-in-HandleBind : goal.returns-in-HandleBind
returns-in-HandleBind c = by_bind _ _ _ c.args.writable.can_write c.requires c.if-k-writable.false _ _ c.in-HandleBind.is c.when-bound.ensures c.when-in-HandleBind.ensures

pub returns-in-CellNew : goal.returns-in-CellNew
returns-in-CellNew c = by_cell _ _ _ c.args.writable.can_write c.requires c.if-k-writable.false c.names_of-names.ensures.0 c.in-CellNew.is c.when-in-CellNew.ensures

pub returns-in-CellExch : goal.returns-in-CellExch
returns-in-CellExch c = by_exchange _ _ _ c.args.writable.can_write c.requires c.if-k-writable.false _ c.in-CellExch.is c.when-in-CellExch.ensures

pub returns-in-CasePair : goal.returns-in-CasePair
unfolding effect_of taken_apart
returns-in-CasePair c = by_none _ _ _ c.args.writable.can_write c.requires c.if-k-writable.false c.in-CasePair.is refl refl

pub returns-in-CaseList : goal.returns-in-CaseList
unfolding effect_of taken_apart
returns-in-CaseList c = by_none _ _ _ c.args.writable.can_write c.requires c.if-k-writable.false c.in-CaseList.is refl refl
