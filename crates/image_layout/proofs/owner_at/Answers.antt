-- `image_layout::owner_at` meets its contract.
use mathlib.Core.Path.{◌∙◌, ap, sym}
use Rattle.image_layout.specs.Slice.{companion_at}
use Rattle.image_layout.proofs.Theory.Slice.{owner_of_open, owner_of_other}
use Rattle.image_layout.proofs.owner_at.Goals as goal

pub companion_at-requires : goal.companion_at-requires
companion_at-requires c = rw c.companion_at-companion.ensures (c.requires.future (sym c.kind_at.ensures ∙ c.if-kind_at-eq-OPEN_HANDLE.true))

pub returns-then-kind_at-eq-OPEN_HANDLE : goal.returns-then-kind_at-eq-OPEN_HANDLE
returns-then-kind_at-eq-OPEN_HANDLE c =
    let s = c.args.image.now in
    c.companion_at.ensures
    ∙ ap (companion_at s) c.companion_at-companion.ensures
    ∙ sym (owner_of_open s c.args.k (sym c.kind_at.ensures ∙ c.if-kind_at-eq-OPEN_HANDLE.true))

pub returns : goal.returns
returns c = c.companion_at-companion.ensures ∙ sym (owner_of_other c.args.image.now c.args.k (λ e. c.if-kind_at-eq-OPEN_HANDLE.false (c.kind_at.ensures ∙ e)))
