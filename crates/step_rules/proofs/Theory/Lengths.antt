-- How long what a step puts in place of the application or case is, rule by rule, and the whole expression.
use Rattle.std.specs.Prelude.{◌≡◌, List, ℕ, ◌+◌, ◌-◌, ◌*◌, ◌≤◌}
use Rattle.std.proofs.Math.Path.{ap}
use Rattle.std.proofs.Common.{◌∙◌, arith, length-append, length-take, length-drop}
use Rattle.std.proofs.Math.ListN.{length}
use Rattle.image_layout.specs.Slice.{offset_at, length_at}
use Rattle.step_rules.specs.declared.Move.{Move}
use Rattle.step_rules.specs.declared.Move.TheVariants.{FutureDeref, HandleNew, CellExch}
use Rattle.step_rules.specs.declared.Step.{Step}
use Rattle.step_rules.specs.Positions.{application_length, name_length}
use Rattle.step_rules.specs.Effects.{bytes_between, argument_bytes, effect_of}
use Rattle.step_rules.specs.Moves.{effect, expression_after}
use Rattle.step_rules.specs.Stepped.{Copied, Movable}
use Rattle.step_rules.proofs.Theory.Writers.{has_by}

pub length_between : (s : List ℕ) (a b : ℕ) → a ≤ b → b ≤ length s → length (bytes_between s a b) ≡ b - a
unfolding bytes_between
length_between s a b h k = simp (length-take, length-drop) (omega arith)

pub copied_length : {s : List ℕ} {from to : ℕ} → Copied s from to → length (bytes_between s from to) ≡ to - from
copied_length {s} {from} {to} c = length_between s from to c.onward c.inside

module _ {s : List ℕ} {step : Step} (m : Movable s step) where
  pub argument_length : length (argument_bytes s step.meeting) ≡ step.meeting.end - step.meeting.second
  argument_length = length_between s step.meeting.second step.meeting.end m.third (omega (arith, m.ends, m.inside))

  -- the part of the application or case before the name that rule 3 follows
  pub function_length : length (bytes_between s step.meeting.at (step.meeting.second - name_length)) ≡ step.meeting.second - name_length - step.meeting.at
  function_length = length_between s step.meeting.at (step.meeting.second - name_length) (omega (arith, m.second))
      (omega (arith, m.third, m.ends, m.inside))

  -- by a move that is known
  pub redex_by : {by : Move} → step.by ≡ by → (effect s step).redex ≡ (effect_of s step.meeting by).redex
  redex_by e = ap (λ (k : Move). (effect_of s step.meeting k).redex) e

  pub length_3 : {from to : ℕ} → step.by ≡ FutureDeref from to → length (effect s step).redex ≡ step.meeting.end - step.meeting.at - name_length + (to - from)
  unfolding effect_of
  length_3 e = rw (redex_by e) (simp (length-append, function_length, copied_length (has_by m e).1, argument_length) (omega (arith, m.second, m.third)))

  pub length_4 : step.by ≡ HandleNew → length (effect s step).redex ≡ step.meeting.end - step.meeting.second + 2 * (application_length + name_length)
  unfolding effect_of
  length_4 e = rw (redex_by e) (simp (length-append, argument_length) (omega arith))

  pub length_7 : {cell from to : ℕ} → step.by ≡ CellExch cell from to → length (effect s step).redex ≡ to - from
  unfolding effect_of
  length_7 e = ap length (redex_by e) ∙ copied_length (has_by m e).1

  -- the whole expression: the bytes that come, for those of the application or case
  pub expression_length : length (expression_after s step) ≡ length_at s step.thread + length (effect s step).redex - (step.meeting.end - step.meeting.at)
  unfolding expression_after
  expression_length =
      let p = length_between s (offset_at s step.thread) step.meeting.at m.begins (omega (arith, m.second, m.third, m.ends, m.inside)) in
      let q = length_between s step.meeting.end (offset_at s step.thread + length_at s step.thread) m.ends m.inside in
      simp (length-append, p, q) (omega (arith, m.begins, m.second, m.third, m.ends))
