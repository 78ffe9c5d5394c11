use native.Mathlib.Omega.{arith}
use Rattle.step_look.proofs.Looking.{by_kind, no_such}
use Rattle.image_layout.proofs.Theory.Reading.{has_head, has_names}
use Rattle.image_check.proofs.Theory.Whole.{whole_sound}
use Rattle.step_look.proofs.is_thread.Goals as goal

pub names_of-requires : goal.names_of-requires
names_of-requires c = omega (arith, has_names _ (whole_sound _ c.args.image.stands).heads)

pub returns-then-names_of-thread : goal.returns-then-names_of-thread
returns-then-names_of-thread c = let a = c.args in no_such a.image.bytes.now a.thread (omega (arith, c.names_of.ensures.0, c.if-names_of-thread.true))

pub kind_at-requires : goal.kind_at-requires
kind_at-requires c = let a = c.args in has_head _ (whole_sound _ c.args.image.stands).heads a.thread (omega (arith, c.names_of.ensures.0, c.if-names_of-thread.false))

pub returns : goal.returns
returns c = let a = c.args in by_kind a.image.bytes.now a.thread (omega (arith, c.names_of.ensures.0, c.if-names_of-thread.false)) _ c.kind_at.ensures
