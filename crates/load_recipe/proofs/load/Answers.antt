-- `load_recipe::load` meets its contract.
use mathlib.Core.Path.{◌∙◌, ◌≡◌, ap, sym}
use mathlib.Core.List.{List}
use Prim.Native.Nat.{ℕ}
use native.Mathlib.Omega.{arith}
use Rattle.numbers.specs.Refusals.{refusal_number}
use Rattle.numbers.proofs.Refusals.{number_by_as, some_number}
use Rattle.check_spec.specs.declared.Verdict.{Verdict}
use Rattle.check_spec.specs.Verdict.{refusal, verdict_of}
use Rattle.check_spec.proofs.Theory.Accepted.{laid_and_started}
use Rattle.load_spec.specs.Loading.{not_loaded}
use Rattle.load_recipe.proofs.Answers.{loads, number_is, refuses_profile, refuses_recipe, too_short}
use Rattle.load_recipe.proofs.load.Goals as goal

-- the recipe is accepted where its verdict has no refusal
accepted_by : (s : List ℕ) {v : Verdict} → v ≡ verdict_of s → v.refusal ≡ 0 → refusal s ≡ 0
accepted_by s {v} e z = sym (number_is s v e) ∙ z

pub returns-then-out-lt-MAX_LENGTH : goal.returns-then-out-lt-MAX_LENGTH
returns-then-out-lt-MAX_LENGTH g c =
    let (p, q) = too_short g.P.Profile.profile c.args.recipe.now c.args.out.now c.if-out-lt-MAX_LENGTH.true in
    record { value = c.refused.ensures ∙ p; out_after = q }

pub returns-then-refusal-ne0 : goal.returns-then-refusal-ne0
returns-then-refusal-ne0 g c =
    let (p, q) = refuses_recipe g.P.Profile.profile c.args.recipe.now c.args.out.now (omega (arith, c.if-out-lt-MAX_LENGTH.false)) _ c.check-verdict.ensures c.if-refusal-ne0.true in
    record { value = c.refused-then-refusal-ne0.ensures ∙ p; out_after = q }

pub of-recipe-requires : goal.of-recipe-requires
of-recipe-requires g c = (laid_and_started _ (accepted_by _ c.check-verdict.ensures c.if-refusal-ne0.false)).0

pub further_refusal-requires : goal.further_refusal-requires
further_refusal-requires g c = rw c.of-recipe.ensures (accepted_by _ c.check-verdict.ensures c.if-refusal-ne0.false)

pub returns-in-Err : goal.returns-in-Err
returns-in-Err g c =
    let (p, q) = refuses_profile g.P.Profile.profile c.args.recipe.now c.args.out.now (omega (arith, c.if-out-lt-MAX_LENGTH.false))
    (accepted_by _ c.check-verdict.ensures c.if-refusal-ne0.false) _ (rw c.of-recipe.ensures at (sym c.further_refusal.ensures ∙ ap refusal_number c.in-Err.is)) (some_number c.in-Err.cause) in
    record { value = c.refused-in-Err.ensures ∙ ap not_loaded (number_by_as c.in-Err.cause) ∙ p; out_after = q }

pub put_loaded-requires : goal.put_loaded-requires
put_loaded-requires g c = rw c.of-recipe.ensures (accepted_by _ c.check-verdict.ensures c.if-refusal-ne0.false, c.check-verdict.ensures, omega (arith, c.if-out-lt-MAX_LENGTH.false))

pub returns : goal.returns
returns g c =
    let (p, q) = loads g.P.Profile.profile c.args.recipe.now c.args.out.now (omega (arith, c.if-out-lt-MAX_LENGTH.false))
    (accepted_by _ c.check-verdict.ensures c.if-refusal-ne0.false) (rw c.of-recipe.ensures at (sym c.further_refusal.ensures ∙ ap refusal_number c.in_default.is))
    (rw c.of-recipe.ensures at c.put_loaded.ensures.value) (rw c.of-recipe.ensures at c.put_loaded.ensures.out_after) in
    record { value = p; out_after = q }
