-- Terms by their nodes from first byte to last: which nodes may stand next, by types. A goal is a term that is still to come. No accepted term is lost so
-- (Theory.Complete); whether a whole term is accepted, the checker says.
use Rattle.std.specs.Prelude.{Bool, ◌&&◌, ◌||◌, cond, true, List, [], ◌++◌, ◌∷◌, map, ◌+◌, ◌-◌, suc, zero, ℕ, eqb, leb, ltb, length}
use Rattle.std.proofs.Math.Option.{Option, none, some}
use Rattle.calculus.specs.Syntax.{Exp, at}
use Rattle.calculus.specs.Table.{Entry, Table, is_many}
use Rattle.calculus.specs.Verdict.{is_function_kind, on_function, scoped, annotated, type_number}
use Rattle.term.specs.Forms.{subterms_of}
use Rattle.term.specs.Tree.{node_bytes}
use Rattle.term.specs.Expressions.{leaf_exp}
use Rattle.list_spec.specs.Listed.{small_nums}
use Rattle.list_spec.specs.Search.{Branch}

-- a term to come: the number of its type, none at the root; the numbers of the types of the variables in scope, innermost first
pub record Goal : Type 0 where
  pub want : Option ℕ
  pub env : List ℕ

abbrev pub goal : Option ℕ → List ℕ → Goal
goal want env = record { want = want; env = env }

-- what is to come: `spine` applications stand open above the first goal, each with its argument still to come behind it; then the other goals
pub record State : Type 0 where
  pub spine : ℕ
  pub goals : List Goal

abbrev pub state : ℕ → List Goal → State
state spine goals = record { spine = spine; goals = goals }

-- how many terms are to come
abbrev pub pending : State → ℕ
pending s = s.spine + length s.goals

-- a node: its tag, and the number after it
pub record Head : Type 0 where
  pub tag : ℕ
  pub arg : ℕ

abbrev pub head : ℕ → ℕ → Head
head tag arg = record { tag = tag; arg = arg }

-- its bytes
abbrev pub piece_of : Head → List ℕ
piece_of h = node_bytes h.tag h.arg

-- type t, applied to k arguments, is what is wanted. At the root a type of multiplicity many is: cause 11.
unfoldable pub meets : Table → ℕ → Option ℕ → ℕ → Bool
meets T zero none t = is_many T t
meets T zero (some w) t = eqb t w
meets T (suc k) want t = on_function T t λ p q. meets T k want q

-- the goals of the k arguments of a function of type t, in front of others
unfoldable pub with_parts : Option Entry → (ℕ → ℕ → List Goal) → List Goal
with_parts none f = []
with_parts (some x) f = f x.p x.q

unfoldable pub arguments : Table → ℕ → ℕ → List ℕ → List Goal → List Goal
arguments T zero t env goals = goals
arguments T (suc k) t env goals = with_parts (at T t) λ p q. goal (some p) env ∷ arguments T k q env goals

-- the type of a leaf, by the checker's own definitions; one bay, so one name
unfoldable pub leaf_type : Table → List ℕ → Exp → Option ℕ
leaf_type T env e = cond (scoped (length T) 1 (length env) e && annotated T e) (type_number T env e) none

-- what is to come behind a node, if it may stand at the first goal g
unfoldable pub behind_leaf : Table → ℕ → Goal → List Goal → Option ℕ → Option State
behind_leaf T k g goals none = none
behind_leaf T k g goals (some t) = cond (meets T k g.want t) (some (state 0 (arguments T k t g.env goals))) none

unfoldable pub behind_lambda : Table → ℕ → Goal → List Goal → ℕ → Option Entry → Option State
behind_lambda T k g goals t none = none
behind_lambda T k g goals t (some x) =
    cond (is_function_kind x.kind && meets T k g.want t) (some (state 0 (goal (some x.q) (x.p ∷ g.env) ∷ arguments T k t g.env goals))) none

-- by the number of its subterms: none, a lambda's one, an application's two
unfoldable pub enter_by : ℕ → Table → ℕ → Goal → List Goal → Head → Option State
enter_by zero T k g goals h = behind_leaf T k g goals (leaf_type T g.env (leaf_exp h.tag h.arg))
enter_by (suc zero) T k g goals h = behind_lambda T k g goals h.arg (at T h.arg)
enter_by (suc (suc n)) T k g goals h = some (state (suc k) (g ∷ goals))

unfoldable pub enter : Table → ℕ → Goal → List Goal → Head → Option State
enter T k g goals h = enter_by (subterms_of h.tag) T k g goals h

-- each term to come has a node, and where none is to come no node is left
unfoldable pub room : ℕ → State → Bool
room r s = leb (pending s) r && (eqb r 0 || ltb 0 (pending s))

-- cause 10 cut short: a once parameter, of type p, is used once in a body of type q. A body of one node is the variable, one of two nodes a lambda over it.
unfoldable pub may_use : Table → ℕ → ℕ → ℕ → Bool
may_use T p q nodes = is_many T p || (eqb p q || (ltb 1 nodes && (on_function T q (λ a b. eqb b p) || ltb 2 nodes)))

-- of a lambda with r nodes left behind it, of which each other term to come has one
unfoldable pub useful_by : ℕ → Table → ℕ → ℕ → List Goal → ℕ → Bool
useful_by zero T r k goals t = true
useful_by (suc zero) T r k goals t = on_function T t λ p q. may_use T p q (r - (k + length goals))
useful_by (suc (suc n)) T r k goals t = true

unfoldable pub useful : Table → ℕ → ℕ → List Goal → Head → Bool
useful T r k goals h = useful_by (subterms_of h.tag) T r k goals h.arg

-- the numbers from i on, n of them
unfoldable pub upward : ℕ → ℕ → List ℕ
upward i zero = []
upward i (suc n) = i ∷ upward (suc i) n

-- how many numbers are tried after each tag, in the order of the tags: variable, lambda, application; unit, num; cell, exch, thread, handle; name
unfoldable pub bounds : ℕ → ℕ → List ℕ
bounds depth types = depth ∷ types ∷ 1 ∷ 1 ∷ small_nums ∷ types ∷ types ∷ types ∷ types ∷ 1 ∷ []

-- the nodes to try, in ascending order of their bytes: from a tag on, where so many numbers are tried after it and after the next ones
unfoldable pub heads_from : ℕ → List ℕ → List Head
heads_from tag [] = []
heads_from tag (n ∷ ns) = map (head tag) (upward 0 n) ++ heads_from (suc tag) ns

unfoldable pub heads : ℕ → ℕ → List Head
heads depth types = heads_from 0 (bounds depth types)

-- those that may stand there, with r nodes left behind them
unfoldable pub with_branch : (State → Bool) → List ℕ → Option State → List (Branch State) → List (Branch State)
with_branch test p none bs = bs
with_branch test p (some s) bs = cond (test s) (record { piece = p; next = s } ∷ bs) bs

unfoldable pub choose : Table → ℕ → ℕ → Goal → List Goal → List Head → List (Branch State)
choose T r k g goals [] = []
choose T r k g goals (h ∷ hs) = with_branch (λ s. room r s && useful T r k goals h) (piece_of h) (enter T k g goals h) (choose T r k g goals hs)

unfoldable pub branches_at : Table → ℕ → ℕ → List Goal → List (Branch State)
branches_at T r k [] = []
branches_at T r k (g ∷ goals) = choose T r k g goals (heads (length g.env) (length T))

unfoldable pub branches : Table → ℕ → State → List (Branch State)
branches T r s = branches_at T r s.spine s.goals

-- where a search begins: one goal, of any type, with no variable in scope
abbrev pub beginning : State
beginning = state 0 (goal none [] ∷ [])
