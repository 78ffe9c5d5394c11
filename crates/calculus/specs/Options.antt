-- What may be there or not.
use Rattle.std.proofs.Math.Option.{Option, none, some}

-- what f makes of what is there, and nothing of nothing
abbrev pub on_some : {A B : Type 0} → Option A → (A → Option B) → Option B
on_some none f = none
on_some (some a) f = f a
