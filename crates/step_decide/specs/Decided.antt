-- What a decision says of the calculus's step of thread x of the image s.
use Rattle.std.specs.Prelude.{◌≡◌, List, ℕ}
use Rattle.calculus.specs.Step.{waiting, used_handle, wrong_kind, step_of}
use Rattle.numbers.specs.declared.Cause.TheVariants.{UsedHandle, WrongKind}
use Rattle.image.specs.Configuration.{config_of}
use Rattle.step_rules.specs.declared.Step.{Step}
use Rattle.step_rules.specs.Stepped.{Stepped}
use Rattle.step_decide.specs.declared.Decision.{Decision}
use Rattle.step_decide.specs.declared.Decision.TheVariants.{Goes, Waits, Refuses}

-- the thread goes, by this step; "waiting with that name"; causes 16 and 17
pub data Decided (s : List ℕ) (x : ℕ) : Decision → Type 0 where
  goes : {step : Step} → Stepped s x step → Decided s x (Goes step)
  waits : {y : ℕ} → step_of (config_of s) x ≡ waiting y → Decided s x (Waits y)
  refuses_used : step_of (config_of s) x ≡ used_handle → Decided s x (Refuses UsedHandle)
  refuses_wrong : step_of (config_of s) x ≡ wrong_kind → Decided s x (Refuses WrongKind)
