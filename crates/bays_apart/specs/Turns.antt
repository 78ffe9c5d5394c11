-- T-09: the turns of one bay's threads, "counted within the bay", and its setting, in an image as the calculus sees it.
use Rattle.std.specs.Prelude.{◌≡◌, Bool, ◌&&◌, cond, false, true, List, [], ◌∷◌, suc, zero, ℕ, eqb}
use Rattle.std.proofs.Math.Option.{Option, none, some}
use Rattle.calculus.specs.Syntax.{Exp, Component, holds, Config, at, on_thread}
use Rattle.calculus.specs.Typing.{TypeNumbers}
use Rattle.calculus.specs.Owners.{Owned}
use Rattle.calculus.specs.Shares.{bay_components}
use Rattle.bays_apart.specs.Same.{rank, Same, SamePlace}

-- an owner that is there is bay k
unfoldable pub is_bay : ℕ → Option ℕ → Bool
is_bay k none = false
is_bay k (some o) = eqb o k

-- a component that is there is a thread
unfoldable pub is_thread : Option Component → Bool
is_thread c = on_thread c false λ e. true

-- a step of number x is a turn of bay k where x is a thread of the image handed in, and bay k's
unfoldable pub is_turn : ℕ → Owned → ℕ → Bool
is_turn k I x = is_bay k (at I.owners x) && is_thread (at I.config x)

-- how many threads stand before place r
unfoldable pub threads_below : Config → ℕ → ℕ
threads_below [] r = 0
threads_below (c ∷ C) zero = 0
threads_below (c ∷ C) (suc r) = cond (is_thread (some c)) (suc (threads_below C r)) (threads_below C r)

-- "that bay's threads, counted within the bay": which of them x is
unfoldable pub whose_turn : ℕ → Owned → ℕ → ℕ
whose_turn k I x = threads_below (bay_components k I) (rank k I.owners x)

-- those of a list that pass a test, in their order: the steps of a run that are a bay's turns
unfoldable pub passing : {A : Type 0} → (A → Bool) → List A → List A
passing test [] = []
passing test (a ∷ l) = cond (test a) (a ∷ passing test l) (passing test l)

-- "and so is its setting .. ; numbers of names may differ": setting k is a cell in both images, and holds the same
pub record SameSetting (k : ℕ) (τ σ : TypeNumbers) (I J : Owned) : Type 0 where
  pub held_left : Exp
  pub held_right : Exp
  pub cell_left : at I.config k ≡ some (holds held_left)
  pub cell_right : at J.config k ≡ some (holds held_right)
  pub same_held : Same (SamePlace k I.owners J.owners) τ σ held_left held_right
