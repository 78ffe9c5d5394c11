-- Document 01, "A step": "Otherwise Fig. 3 gives one place where two values meet". The place of an expression whose bytes begin at `base`.
use Rattle.std.specs.Prelude.{List, ◌+◌, ℕ, Option, None, Some}
use Rattle.calculus.specs.Syntax.{Exp}
use Rattle.calculus.specs.Reduction.{Context}
use Rattle.calculus.specs.Step.{application, on_place, Redex, subject}
use Rattle.calculus.specs.Step as step
use Rattle.calculus.specs.Image.{Closed, size}
use Rattle.term.specs.Reader.{GoodAt}
use Rattle.term.specs.Expressions.{term_at}
use Rattle.term_redex.specs.declared.Meeting.{Meeting}
use Rattle.term_redex.specs.Contexts.{hole_at}

-- the two subterms of what stands at the place: function and argument, subject and body
abbrev pub first_part : {r : Exp} → Redex r → Exp
first_part (application {f = f} wf wv) = f
first_part (subject {v = v} w) = v

abbrev pub second_part : {r : Exp} → Redex r → Exp
second_part (application {v = v} wf wv) = v
second_part (subject {e = e} w) = e

-- where r stands in F[r]: its node, its second subterm, and where it ends
unfoldable pub meeting_of : ℕ → Context → {r : Exp} → Redex r → Meeting
meeting_of base F d =
    record {
      at = base + hole_at F;
      second = base + hole_at F + 1 + size (first_part d);
      end = base + hole_at F + 1 + size (first_part d) + size (second_part d);
    }

-- document 01: a value "answers done", "otherwise .. two values meet". `loose` is the place of no closed expression (calculus, `place_closed`), and
-- a search asks for a closed one (`Searchable`).
unfoldable pub place_of : ℕ → step.Place → Option Meeting
place_of base p = on_place p None None λ F r d. Some (meeting_of base F d)

-- a term at a position whose variables are bound in it: what a search is asked about
pub record Searchable (l : List ℕ) (at : ℕ) : Type 0 where
  pub good : GoodAt l at
  pub closed : Closed 0 (term_at l at)
