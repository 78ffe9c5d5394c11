-- What a writer needs, of a step at a meeting.
use Rattle.std.proofs.Common.{◌∙◌, ap, subst, arith}
use Rattle.std.specs.Prelude.{◌≡◌, List, ℕ, ◌≤◌, ◌<◌}
use Rattle.std.proofs.Math.Path.{sym}
use Rattle.calculus.proofs.Theory.Configurations.{sum_part}
use Rattle.calculus.specs.Syntax.{Const, unit, num, op, Exp, var, name, const, lam, app, both, case_of, sum_in}
use Rattle.calculus.specs.Reduction.{Context, plug}
use Rattle.calculus.specs.Step.{Redex, application, subject}
use Rattle.calculus.specs.Image.{const_size, nodes, nodes_all, size}
use Rattle.calculus.specs.Limits.{max_nodes}
use Rattle.term.specs.Expressions.{TermAt}
use Rattle.term.proofs.Expressions.{found_at}
use Rattle.image_layout.specs.Slice.{names}
use Rattle.image.specs.Configuration.{config_of}
use Rattle.term_redex.specs.declared.Meeting.{Meeting}
use Rattle.term_redex.specs.Places.{first_part, second_part}
use Rattle.term_redex.proofs.Contexts.{plug_nodes}
use Rattle.step_rules.specs.declared.Move.{Move}
use Rattle.step_rules.specs.declared.Step.{Step}
use Rattle.step_rules.specs.Stepped.{Counted, Has, Movable}
use Rattle.step_rules.specs.Meets.{step_at, MeetsAt}
use Rattle.step_rules.proofs.Theory.Reading.{rules, below, thread_stands}

pub size_positive : (e : Exp) → 1 ≤ size e
unfolding size const_size
size_positive (var i) = omega arith
size_positive (name k) = omega arith
size_positive (const c) = go c
  where
    go : (c : Const) → 1 ≤ const_size c
    go unit = omega arith
    go (num n) = omega arith
    go (op o t) = omega arith
size_positive (lam t e) = omega arith
size_positive (app f a) = omega arith
size_positive (both s t e₁ e₂) = omega arith
size_positive (case_of s e₁ e₂) = omega arith

pub counted : {s : List ℕ} {a : ℕ} {e : Exp} → TermAt s a e → nodes e ≤ max_nodes → Counted s a
counted {s} {a} {e} t n = let p = found_at t in record { good = p.good; few = omega (arith, ap nodes p.term) }

-- what a move that is known has
pub has_by : {s : List ℕ} {step : Step} {by : Move} → Movable s step → step.by ≡ by → Has s step.meeting by
has_by {s} {step} w e = subst (Has s step.meeting) e w.has

-- the second subterm is no larger than the whole
second_nodes : {r : Exp} (d : Redex r) → nodes (second_part d) ≤ nodes r
unfolding nodes
second_nodes (application wf wv) = omega arith
second_nodes (subject w) = omega arith

module _ {s : List ℕ} {x : ℕ} {m : Meeting} {F : Context} {r : Exp} {d : Redex r} (M : MeetsAt s x m F d) where
  pub thread_below : x < names s
  thread_below = below s M.in_bytes M.stands x M.thread

  pub few_all : nodes_all (config_of s) ≤ max_nodes
  few_all = (rules s M.in_bytes M.stands).limits.few_nodes

  pub few : nodes r ≤ max_nodes
  unfolding sum_in
  few = omega (arith, sum_part (sum_in nodes) (config_of s) x M.thread, plug_nodes F r, few_all)

  pub movable : (by : Move) → Has s m by → Movable s (step_at x m by)
  unfolding nodes
  movable by has =
      let p = M.placed in
      let q = thread_stands s M.in_bytes M.stands x (plug F r) M.thread in
      record {
        thread_below = thread_below;
        begins = omega (arith, p.begins);
        second = omega (arith, p.second_at, size_positive (first_part d));
        third = omega (arith, p.ends);
        ends = omega (arith, p.last, M.long);
        inside = q.inside;
        last = counted p.second (omega (arith, few, second_nodes d));
        last_ends = p.ends ∙ sym (found_at p.second).ends;
        has = has;
      }
