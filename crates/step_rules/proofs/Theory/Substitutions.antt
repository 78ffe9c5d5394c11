-- What rules 1, 8 and 9 put in a body stands whole in the image, and so does the body.
use Rattle.std.specs.Prelude.{◌≡◌, List, ℕ}
use Rattle.step_rules.specs.declared.Step.{Step}
use Rattle.step_rules.specs.declared.Substitution.{Substitution}
use Rattle.step_rules.specs.Stepped.{Body, Components, Movable}
use Rattle.step_rules.specs.Substitutions.{TermIn, Whole, argument_in, components_in}

pub whole_as : {s : List ℕ} {with known : Substitution} → with ≡ known → Whole s known → Whole s with
whole_as e w = rw e w

module _ {s : List ℕ} {step : Step} (m : Movable s step) where
  -- rule 1
  pub whole_applied : Body s step.meeting → Whole s (argument_in step.meeting)
  unfolding argument_in
  whole_applied b =
      let argument : TermIn s (argument_in step.meeting).inner = record { counted = m.last; ends = m.last_ends } in
      record { body = record { counted = b.body; ends = b.body_ends }; inner = argument; outer = argument }

  -- rules 8 and 9
  pub whole_taken : {rest : ℕ} → Components s step.meeting rest → Whole s (components_in step.meeting rest)
  unfolding components_in
  whole_taken c =
      record {
        body = record { counted = m.last; ends = m.last_ends };
        inner = record { counted = c.second; ends = c.second_ends };
        outer = record { counted = c.first; ends = c.first_ends };
      }
