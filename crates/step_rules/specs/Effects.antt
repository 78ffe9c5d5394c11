-- Fig. 5 in bytes, and T-03's rules 8 and 9, a clause for each rule. Who owns the names is said once, of all rules (`Moves`).
use Rattle.std.specs.Prelude.{List, [], ◌∷◌, ◌++◌, ℕ, ◌+◌, ◌-◌, drop, take}
use Rattle.calculus.specs.Image.{nodes}
use Rattle.calculus.specs.Reduction.{substitute, substitute_both, Rule, BETA, THREAD_NEW, FUTURE_DEREF, HANDLE_NEW, HANDLE_BIND, CELL_NEW, CELL_EXCH, CASE}
use Rattle.calculus.specs.Syntax.{Exp, pair, list}
use Rattle.term.specs.Expressions.{bytes, term_at}
use Rattle.term.specs.Forms.{application_tag, unit_tag, name_tag}
use Rattle.term_redex.specs.declared.Meeting.{Meeting}
use Rattle.image_layout.specs.Encoded.{Encoded}
use Rattle.image_layout.specs.Slice.{names}
use Rattle.image.specs.Holding.{thread_holding, cell_holding, handle_open, handle_used, future_awaited}
use Rattle.step_rules.specs.declared.Carried.{Carried}
use Rattle.step_rules.specs.declared.Move.{Move}
use Rattle.step_rules.specs.declared.Move.TheVariants.{Beta, ThreadNew, FutureDeref, HandleNew, HandleBind, CellNew, CellExch, CasePair, CaseList}
use Rattle.step_rules.specs.Positions.{name_length, to_body, to_component}

-- the rule of a move
abbrev pub rule_of : Move → Rule
rule_of Beta = BETA
rule_of ThreadNew = THREAD_NEW
rule_of (FutureDeref from to) = FUTURE_DEREF
rule_of HandleNew = HANDLE_NEW
rule_of (HandleBind handle future) = HANDLE_BIND
rule_of CellNew = CELL_NEW
rule_of (CellExch cell from to) = CELL_EXCH
rule_of (CasePair rest) = CASE pair
rule_of (CaseList rest) = CASE list

-- the bytes of a slice from a to b
unfoldable pub bytes_between : List ℕ → ℕ → ℕ → List ℕ
bytes_between s a b = take (b - a) (drop a s)

-- the value that the function is applied to; the body of a case
abbrev pub argument_bytes : List ℕ → Meeting → List ℕ
argument_bytes s m = bytes_between s m.second m.end

-- a name
abbrev pub name_bytes : ℕ → List ℕ
name_bytes k = name_tag ∷ k ∷ []

-- the new thread of rule 2: the argument applied to the thread's own name
abbrev pub started_bytes : List ℕ → Meeting → List ℕ
started_bytes s m = application_tag ∷ (argument_bytes s m ++ name_bytes (names s))

-- a component, but for its owner
abbrev pub Unowned : Type 0
Unowned = ℕ → Encoded

-- a name with its component
pub record Named : Type 0 where
  pub name : ℕ
  pub component : Unowned

abbrev pub named : ℕ → Unowned → Named
named k c = record { name = k; component = c }

-- what a move makes of an image
pub record Effect : Type 0 where
  -- what stands in place of the application or case
  pub redex : List ℕ
  -- the nodes that come and those that go
  pub gained : ℕ
  pub lost : ℕ
  -- the components of the new names, from m on
  pub new : List Unowned
  -- the other names that change
  pub changed : List Named

-- rules 1, 8 and 9 put values in a body: the outcome comes; body and values go, of so many nodes, and the two nodes around them
abbrev pub put_in : Exp → ℕ → Effect
put_in outcome gone = record { redex = bytes outcome; gained = nodes outcome; lost = gone + 2; new = []; changed = [] }

-- rules 8 and 9, E[case v₁, v₂ of x, y ⇒ e] → E[e[v₁/x][v₂/y]]: v₂ stands at `rest`. Around them were the case and the pair or front.
unfoldable pub taken_apart : List ℕ → Meeting → ℕ → Effect
taken_apart s m rest =
    put_in (substitute_both (term_at s (m.at + to_component)) (term_at s rest) (term_at s m.second))
    (nodes (term_at s m.second) + (nodes (term_at s rest) + nodes (term_at s (m.at + to_component))))

-- at the meeting m in the image s
unfoldable pub effect_of : List ℕ → Meeting → Move → Effect
-- BETA: E[(λy.e) v] → E[e[v/y]]. Around them were the application and the lambda.
effect_of s m Beta =
    put_in (substitute 0 (term_at s m.second) (term_at s (m.at + to_body))) (nodes (term_at s (m.at + to_body)) + nodes (term_at s m.second))
-- THREAD.NEW: E[thread v] → (νy)(E[y] | y ⇐ v y)
effect_of s m ThreadNew =
    record {
      redex = name_bytes (names s);
      gained = 1;
      lost = 0;
      new = thread_holding (started_bytes s m) ∷ [];
      changed = [];
    }
-- FUTURE.DEREF: Ef[y] | y ⇐ w → Ef[w] | y ⇐ w. The name y stands right before the argument, or the body of a case.
effect_of s m (FutureDeref from to) =
    record {
      redex = bytes_between s m.at (m.second - name_length) ++ bytes_between s from to ++ argument_bytes s m;
      gained = nodes (term_at s from);
      lost = 1;
      new = [];
      changed = [];
    }
-- HANDLE.NEW: E[handle v] → (νy)(νz)(E[v y z] | z h y)
effect_of s m HandleNew =
    record {
      redex = application_tag ∷ application_tag ∷ (argument_bytes s m ++ name_bytes (names s) ++ name_bytes (names s + 1));
      gained = 2;
      lost = 0;
      new = future_awaited ∷ handle_open (names s) ∷ [];
      changed = [];
    }
-- HANDLE.BIND: E[z v] | z h y → E[unit] | y ⇐ v | z h •
effect_of s m (HandleBind handle future) =
    record {
      redex = unit_tag ∷ [];
      gained = 0;
      lost = 1;
      new = [];
      changed = named handle handle_used ∷ named future (thread_holding (argument_bytes s m)) ∷ [];
    }
-- CELL.NEW: E[cell v] → (νy)(E[y] | y c v)
effect_of s m CellNew =
    record {
      redex = name_bytes (names s);
      gained = 0;
      lost = 1;
      new = cell_holding (argument_bytes s m) ∷ [];
      changed = [];
    }
-- CELL.EXCH: E[exch y v₁] | y c v₂ → E[v₂] | y c v₁
effect_of s m (CellExch cell from to) =
    record {
      redex = bytes_between s from to;
      gained = 0;
      lost = 4;
      new = [];
      changed = named cell (cell_holding (argument_bytes s m)) ∷ [];
    }
effect_of s m (CasePair rest) = taken_apart s m rest
effect_of s m (CaseList rest) = taken_apart s m rest

-- T-09: nothing is carried into another name than the thread's own
abbrev pub nothing : ℕ → Carried
nothing x = record { name = x; gained = 0; lost = 0 }

-- what a move of thread x at the meeting m carries into another name
unfoldable pub carried_of : List ℕ → ℕ → Meeting → Move → Carried
carried_of s x m Beta = nothing x
carried_of s x m ThreadNew = nothing x
carried_of s x m (FutureDeref from to) = nothing x
carried_of s x m HandleNew = nothing x
-- the future gets the argument
carried_of s x m (HandleBind handle future) = record { name = future; gained = nodes (term_at s m.second); lost = 0 }
carried_of s x m CellNew = nothing x
-- the cell gets the argument and gives its value
carried_of s x m (CellExch cell from to) = record { name = cell; gained = nodes (term_at s m.second); lost = nodes (term_at s from) }
carried_of s x m (CasePair rest) = nothing x
carried_of s x m (CaseList rest) = nothing x
