-- Document 02, T-05, "Weigh the value before the copying": what it says of outcomes and of room, of the definitions that the contracts and the demands cite.
use Rattle.std.specs.Prelude.{◌≡◌, ◌↔◌, List, [], ◌∷◌, ℕ, ◌*◌, ◌+◌, ◌-◌, ◌<◌, ◌≤◌, suc, length}
use Rattle.calculus.specs.Profile.{common}
use Rattle.calculus.specs.Bytes.{Bytes}
use Rattle.calculus.specs.Limits.{max_image_length, max_nodes}
use Rattle.calculus.specs.Causes.{room_cause}
use Rattle.calculus.specs.Syntax.{Shape, Exp, var, lam, app, both, case_of, Value}
use Rattle.calculus.specs.Owners.{Owned, grown}
use Rattle.calculus.specs.Reduction.{substitute, substitute_both, Context, Has, put, Rule, BETA, CASE, number}
use Rattle.calculus.specs.Names.{uses}
use Rattle.calculus.specs.Image.{nodes, nodes_all}
use Rattle.term.specs.Expressions.{bytes}
use Rattle.image.specs.Configuration.{image_of}
use Rattle.step_spec.specs.declared.Outcome.TheVariants.{Rule as Answers, Refused}
use Rattle.step_spec.specs.Stepping.{outcome_of, out_after_step}
use Rattle.demands.specs.Demands.{ImageOf, Means, Written}

-- "rules 1, 8 and 9"
pub data PutsValues : ℕ → Type 0 where
  rule_1 : PutsValues 1
  rule_8 : PutsValues 8
  rule_9 : PutsValues 9

-- "a value being put in": such a rule makes of an application or case the outcome, a body with a value in each place of its variables. The values stand in the order of
-- their variables, the innermost first.
pub data PutsIn : Rule → Exp → Exp → List Exp → Exp → Type 0 where
  -- BETA: (λy.e) v → e[v/y]
  puts_argument : {t : ℕ} {e v : Exp} → Value v → PutsIn BETA (app (lam t e) v) e (v ∷ []) (substitute 0 v e)
  -- Fig. 10: case (v₁, v₂) of (x, y) ⇒ e → e[v₁/x][v₂/y]; of a list front the same
  puts_components : {s : Shape} {t : ℕ} {e v₁ v₂ : Exp} → Value v₁ → Value v₂ → PutsIn (CASE s) (case_of s (both s t v₁ v₂) e) e (v₂ ∷ v₁ ∷ []) (substitute_both v₁ v₂ e)

-- "for each place": f of its value, added up over the places of variable k of e and of the next ones
unfoldable pub for_each_place : (Exp → ℕ) → ℕ → Exp → List Exp → ℕ
for_each_place f k e [] = 0
for_each_place f k e (v ∷ values) = uses k e * f v + for_each_place f (suc k) e values

-- "the body's nodes plus, for each place, its value's nodes less one"
abbrev pub weighed : Exp → List Exp → ℕ
weighed body values = nodes body + for_each_place (λ v. nodes v - 1) 0 body values

-- thread x of the image goes by the rule with this number, and what is written is the image with the outcome in place of the application or case
pub record PutIn (image : List ℕ) (x : ℕ) (out : List ℕ) (rule : ℕ) (I : Owned) : Type 0 where
  pub by : Rule
  pub context : Context
  pub redex : Exp
  pub body : Exp
  pub values : List Exp
  pub outcome : Exp
  pub is_rule : rule ≡ number by
  pub thread : Has I.config x context redex
  pub puts : PutsIn by redex body values outcome
  pub written : Written (image_of (grown I x (put I.config x context outcome))) out (out_after_step common image x out)
  -- "the outcome has the body's nodes plus, for each place, its value's nodes less one"
  pub nodes_are : nodes outcome ≡ weighed body values
  -- the same of bytes, of which a variable has two: each place's come, and the variable's go
  pub bytes_are : length (bytes outcome) + for_each_place (λ v. length (bytes (var 0))) 0 body values ≡ length (bytes body) + for_each_place (λ v. length (bytes v)) 0 body values

pub record WeighedFirst : Type 0 where
  -- "Prove that the outcome has the body's nodes plus, for each place, its value's nodes less one": wherever a step answers rule 1, 8 or 9
  pub outcome : (image : List ℕ) → Bytes image → (x : ℕ) (out : List ℕ) (rule size : ℕ) → PutsValues rule →
      outcome_of common image x out ≡ Answers rule size → Means image out (PutIn image x out rule)
  -- "and decide room in rules 1, 8 and 9 by that": there is room exactly where the nodes of all names, with what is so told in place of the application or case, are within the limit
  pub room : (image : List ℕ) → Bytes image → (I : Owned) → ImageOf image I → (x : ℕ) (out : List ℕ) → max_image_length ≤ length out →
      {by : Rule} (F : Context) {redex body e : Exp} {values : List Exp} → Has I.config x F redex → PutsIn by redex body values e →
      (outcome_of common image x out ≡ Answers (number by) (length (image_of (grown I x (put I.config x F e))))) ↔ (nodes_all I.config + weighed body values ≤ max_nodes + nodes redex)
  pub no_room : (image : List ℕ) → Bytes image → (I : Owned) → ImageOf image I → (x : ℕ) (out : List ℕ) → max_image_length ≤ length out →
      {by : Rule} (F : Context) {redex body e : Exp} {values : List Exp} → Has I.config x F redex → PutsIn by redex body values e →
      (outcome_of common image x out ≡ Refused room_cause) ↔ (max_nodes + nodes redex < nodes_all I.config + weighed body values)
