-- An outcome of a step and the ending of a run in numbers, as include/fikarehu.h has them.
use Rattle.std.specs.Prelude.{◌%◌, ℕ}
use Rattle.step_spec.specs.declared.Outcome.{Outcome}
use Rattle.step_spec.specs.declared.Outcome.TheVariants.{Rule, Done, Waiting, Refused}
use Rattle.run_spec.specs.declared.Ending.{Ending}
use Rattle.run_spec.specs.declared.Ending.TheVariants.{Turns, Idle, Room, Refused as RunRefused}
use Rattle.fikarehu.specs.declared.Stepped.{Stepped}
use Rattle.fikarehu.specs.declared.Ran.{Ran}

-- which outcome it is
abbrev pub done_outcome : ℕ
done_outcome = 0

abbrev pub rule_outcome : ℕ
rule_outcome = 1

abbrev pub waiting_outcome : ℕ
waiting_outcome = 2

abbrev pub refused_outcome : ℕ
refused_outcome = 3

-- which outcome it is, the number that goes with it, the new image's length
unfoldable pub step_numbers : Outcome → Stepped
step_numbers (Rule rule size) = record { outcome = rule_outcome; number = rule; length = size }
step_numbers Done = record { outcome = done_outcome; number = 0; length = 0 }
step_numbers (Waiting name) = record { outcome = waiting_outcome; number = name; length = 0 }
step_numbers (Refused number) = record { outcome = refused_outcome; number = number; length = 0 }

-- why a run stopped
abbrev pub turns_stop : ℕ
turns_stop = 0

abbrev pub idle_stop : ℕ
idle_stop = 1

abbrev pub room_stop : ℕ
room_stop = 2

-- "the turns taken and the last image's buffer and length": "The load goes to the first buffer", 0, "and steps alternate"
abbrev pub stopped_numbers : ℕ → ℕ → ℕ → Ran
stopped_numbers stop turns size = record { refusal = 0; stop = stop; turns = turns; buffer = turns % 2; length = size }

-- the numbers of an ending; a refusal has its number and nothing else
unfoldable pub run_numbers : Ending → Ran
run_numbers (Turns turns size) = stopped_numbers turns_stop turns size
run_numbers (Idle turns size) = stopped_numbers idle_stop turns size
run_numbers (Room turns size) = stopped_numbers room_stop turns size
run_numbers (RunRefused number) = record { refusal = number; stop = 0; turns = 0; buffer = 0; length = 0 }
