-- What a step leaves, with its owners.
use Rattle.std.specs.Prelude.{List, ℕ}
use Rattle.calculus.specs.Syntax.{Config}
use Rattle.calculus.specs.Owners.{Owned, grown}
use Rattle.calculus.specs.Step.{Answer, rule, waiting, done, no_thread, used_handle, wrong_kind, step_of}
use Rattle.image.specs.Configuration.{config_of, owned_of}

-- the outcome of a rule; without one C stays
unfoldable pub outcome_from : Config → Answer → Config
outcome_from C (rule r C') = C'
outcome_from C (waiting y) = C
outcome_from C done = C
outcome_from C no_thread = C
outcome_from C used_handle = C
outcome_from C wrong_kind = C

-- what a step of thread x leaves, with its owners
abbrev pub left_by : List ℕ → ℕ → Owned
left_by s x = grown (owned_of s) x (outcome_from (config_of s) (step_of (config_of s) x))
