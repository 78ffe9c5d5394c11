-- `draw_text::put_outcome` meets its contract: a word and a number for each outcome.
use mathlib.Core.Path.{ap, sym}
use native.Mathlib.Omega.{arith}
use Rattle.buffer.proofs.Theory.Writes.{known_as, then}
use Rattle.text.specs.Ascii.{decimal}
use Rattle.draw_spec.specs.Lines.{number_of, outcome_text, word_of}
use Rattle.draw_text.proofs.put_outcome.Goals as goal

pub overflow_cast-name : goal.overflow_cast-name
overflow_cast-name c = record { fits = omega (arith, c.requires.0.small _ c.in-Waiting.is) }

pub returns-in-Rule : goal.returns-in-Rule
unfolding number_of outcome_text word_of
returns-in-Rule c = known_as (then c.put_bytes-next.ensures c.put_decimal.ensures) (sym (ap outcome_text c.in-Rule.is))

pub returns-in-Done : goal.returns-in-Done
unfolding decimal number_of outcome_text word_of
returns-in-Done c = known_as c.put_bytes.ensures (sym (ap outcome_text c.in-Done.is))

pub returns-in-Waiting : goal.returns-in-Waiting
unfolding number_of outcome_text word_of
returns-in-Waiting c = known_as (then c.put_bytes-next-in-Waiting.ensures c.put_decimal-in-Waiting.ensures) (sym (ap outcome_text c.in-Waiting.is))

pub returns-in-Refused : goal.returns-in-Refused
unfolding number_of outcome_text word_of
returns-in-Refused c = known_as (then c.put_bytes-next-in-Refused.ensures c.put_decimal-in-Refused.ensures) (sym (ap outcome_text c.in-Refused.is))
