-- Rules 1, 8 and 9 in bytes: a body with values in the places of its two innermost variables.
use Rattle.std.specs.Prelude.{◌≡◌, List, ℕ, ◌+◌}
use Rattle.term.specs.Reader.{end_at}
use Rattle.term.specs.Expressions.{bytes, term_at}
use Rattle.term_redex.specs.declared.Meeting.{Meeting}
use Rattle.term_subst.specs.declared.Span.{Span}
use Rattle.term_subst.specs.Replaced.{replaced}
use Rattle.step_rules.specs.Positions.{to_body, to_component}
use Rattle.step_rules.specs.Stepped.{Counted}
use Rattle.step_rules.specs.declared.Substitution.{Substitution}

abbrev pub span : ℕ → ℕ → Span
span from to = record { from = from; to = to }

-- rule 1: the argument in the body of a lambda, which has no second variable
unfoldable pub argument_in : Meeting → Substitution
argument_in m = record { body = span (m.at + to_body) m.second; inner = span m.second m.end; outer = span m.second m.end }

-- rules 8 and 9, "index 0 the second component": the components in the body of a case
unfoldable pub components_in : Meeting → ℕ → Substitution
components_in m rest = record { body = span m.second m.end; inner = span rest m.second; outer = span (m.at + to_component) rest }

-- Figs. 5 and 10, e[v₁/x][v₂/y]: the bytes of a body with the values in it
unfoldable pub substituted : List ℕ → Substitution → List ℕ
substituted s with = replaced 0 (bytes (term_at s with.inner.from)) (bytes (term_at s with.outer.from)) (term_at s with.body.from)

-- a term stands whole in a part of the image
pub record TermIn (s : List ℕ) (part : Span) : Type 0 where
  pub counted : Counted s part.from
  pub ends : part.to ≡ end_at s part.from

-- so do the body and both values
pub record Whole (s : List ℕ) (with : Substitution) : Type 0 where
  pub body : TermIn s with.body
  pub inner : TermIn s with.inner
  pub outer : TermIn s with.outer
