-- `image_layout::head_agrees` meets its contract: a law for each return.
use Rattle.image_layout.proofs.Heads.{kind_below, kind_above, with_expression, with_companion, companion_over, with_neither}
use Rattle.image_layout.proofs.head_agrees.Goals as goal

pub returns-then-kind-lt-THREAD : goal.returns-then-kind-lt-THREAD
returns-then-kind-lt-THREAD c = kind_below _ _ _ c.if-kind-lt-THREAD.true

pub returns-then-kind-gt-FUTURE : goal.returns-then-kind-gt-FUTURE
returns-then-kind-gt-FUTURE c = kind_above _ _ _ c.if-kind-lt-THREAD.false c.if-kind-gt-FUTURE.true

pub returns-then-kind-lt-OPEN_HANDLE : goal.returns-then-kind-lt-OPEN_HANDLE
returns-then-kind-lt-OPEN_HANDLE c = with_expression _ _ _ c.if-kind-lt-THREAD.false c.if-kind-gt-FUTURE.false c.if-kind-lt-OPEN_HANDLE.true

pub returns-then-kind-eq-OPEN_HANDLE : goal.returns-then-kind-eq-OPEN_HANDLE
returns-then-kind-eq-OPEN_HANDLE c = with_companion _ _ _ c.if-kind-lt-THREAD.false c.if-kind-gt-FUTURE.false c.if-kind-eq-OPEN_HANDLE.true

pub returns-then-companion-ge-MAX_BAYS : goal.returns-then-companion-ge-MAX_BAYS
returns-then-companion-ge-MAX_BAYS c =
    companion_over _ _ _ c.if-kind-lt-THREAD.false c.if-kind-gt-FUTURE.false c.if-kind-lt-OPEN_HANDLE.false c.if-kind-eq-OPEN_HANDLE.false
    c.if-companion-ge-MAX_BAYS.true

pub returns : goal.returns
returns c =
    with_neither _ _ _ c.if-kind-lt-THREAD.false c.if-kind-gt-FUTURE.false c.if-kind-lt-OPEN_HANDLE.false c.if-kind-eq-OPEN_HANDLE.false
    c.if-companion-ge-MAX_BAYS.false
