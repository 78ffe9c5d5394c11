-- `draw_text::recipe_of` meets its contract.
use mathlib.Core.Path.{sym}
use Prim.Native.Nat.{ℕ, ◌-◌}
use native.Mathlib.Omega.{arith}
use lib.ListN.{drop_of_length-le, length, length-drop}
use lib.Seq.{drop-length, take_all, take-nil}
use Rattle.calculus.specs.Limits.{front_length}
use Rattle.draw_spec.specs.Lines.{recipe_in}
use Rattle.draw_text.proofs.recipe_of.Goals as goal

pub returns-then-input-lt-FRONT_LENGTH : goal.returns-then-input-lt-FRONT_LENGTH
returns-then-input-lt-FRONT_LENGTH c =
    let s = c.args.input.now in
    rw (drop-length s, take-nil {A = ℕ} (length s - length s)) (sym (drop_of_length-le s {i = front_length} (omega (arith, c.if-input-lt-FRONT_LENGTH.true))))

pub returns : goal.returns
returns c = let s = c.args.input.now in take_all (length s - front_length) (recipe_in s) (omega (arith, length-drop front_length s))
