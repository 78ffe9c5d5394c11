-- `image_layout::head_stands` meets its contract: a law for each return.
use mathlib.Core.Path.{sym, ◌∙◌}
use Rattle.image_layout.proofs.Heads.{head_fault, offset_fault, head_inside}
use Rattle.image_layout.proofs.head_stands.Goals as goal

pub returns-then-not-head_agrees : goal.returns-then-not-head_agrees
returns-then-not-head_agrees c =
    head_fault _ _ _ c.kind_at.ensures c.companion_at.ensures c.length_at-size.ensures.0
    (sym c.head_agrees.ensures ∙ c.if-not-head_agrees.true)

pub returns-then-offset_at-end : goal.returns-then-offset_at-end
returns-then-offset_at-end c =
    offset_fault _ _ _ c.kind_at.ensures c.companion_at.ensures c.length_at-size.ensures.0
    (sym c.head_agrees.ensures ∙ c.if-not-head_agrees.false)
    c.offset_at.ensures.0
    c.if-offset_at-end.true

pub returns : goal.returns
returns c =
    head_inside _ _ _ c.kind_at.ensures c.companion_at.ensures c.length_at-size.ensures.0
    (sym c.head_agrees.ensures ∙ c.if-not-head_agrees.false)
    c.offset_at.ensures.0
    c.if-offset_at-end.false
    c.requires.1
