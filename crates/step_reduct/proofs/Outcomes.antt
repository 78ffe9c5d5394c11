-- The outcome of rules 1, 8 and 9: a body with values in it.
use mathlib.Core.Path.{◌≡◌, ap, refl, ◌∙◌}
use mathlib.Core.List.{List}
use Prim.Native.Nat.{ℕ}
use Rattle.term.specs.Expressions.{bytes, term_at}
use Rattle.term_subst.proofs.Theory.Outcome.{bytes_beta, bytes_both}
use Rattle.step_rules.specs.declared.Move.{Move}
use Rattle.step_rules.specs.declared.Move.TheVariants.{Beta, CasePair, CaseList}
use Rattle.step_rules.specs.declared.Step.{Step}
use Rattle.step_rules.specs.Effects.{effect_of, taken_apart}
use Rattle.step_rules.specs.Moves.{effect}
use Rattle.step_rules.specs.Stepped.{Components}
use Rattle.step_rules.proofs.Theory.Writers.{has_by}
use Rattle.step_rules.specs.declared.Substitution.{Substitution}
use Rattle.step_reduct.specs.CanWrite.{CanWrite}
use Rattle.step_rules.specs.Substitutions.{argument_in, components_in, substituted, Whole}
use Rattle.step_rules.proofs.Theory.Substitutions.{whole_applied, whole_taken}
use Rattle.step_rules.proofs.Theory.Lengths.{redex_by}

-- what a step puts in place of the application or case is a body with values in it
pub record Replaces (s : List ℕ) (step : Step) (with : Substitution) : Type 0 where
  pub whole : Whole s with
  pub is : (effect s step).redex ≡ substituted s with

pub replaces_as : {s : List ℕ} {step : Step} {with known : Substitution} → with ≡ known → Replaces s step known → Replaces s step with
replaces_as e r = rw e r

module _ {s : List ℕ} {step : Step} (w : CanWrite s step) where
  -- rule 1
  pub replaces_1 : step.by ≡ Beta → Replaces s step (argument_in step.meeting)
  unfolding argument_in effect_of substituted
  replaces_1 e =
      let h = has_by w.movable e in
      record {
        whole = whole_applied w.movable h;
        is = redex_by w.movable e ∙ bytes_beta (term_at s step.meeting.second) (bytes (term_at s step.meeting.second)) 0 h.body_closed;
      }

  -- rules 8 and 9
  replaces_case : {by : Move} {rest : ℕ} → step.by ≡ by → Components s step.meeting rest → effect_of s step.meeting by ≡ taken_apart s step.meeting rest
      → Replaces s step (components_in step.meeting rest)
  unfolding components_in substituted taken_apart
  replaces_case {by} {rest} e h is =
      record {
        whole = whole_taken w.movable h;
        is = redex_by w.movable e ∙ ap (λ k. k.redex) is ∙ bytes_both h.first_closed (term_at s rest) 0 (term_at s step.meeting.second);
      }

  pub replaces_8 : {rest : ℕ} → step.by ≡ CasePair rest → Replaces s step (components_in step.meeting rest)
  unfolding effect_of
  replaces_8 e = replaces_case e (has_by w.movable e) refl

  pub replaces_9 : {rest : ℕ} → step.by ≡ CaseList rest → Replaces s step (components_in step.meeting rest)
  unfolding effect_of
  replaces_9 e = replaces_case e (has_by w.movable e) refl
