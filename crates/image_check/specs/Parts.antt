-- The parts of refusal 13 as the check goes through them: for each name its expression, then the nodes in all, then handles and futures. That they make up
-- `image_stands` is Theory.Whole.
use Rattle.std.specs.Prelude.{◌≡◌, Bool, ◌&&◌, ◌||◌, false, true, List, ◌<◌, ℕ, eqb, leb, get_or, length, Option, None, Some}
use Rattle.calculus.specs.Syntax.{Component, thread_of, holds, open_for, used, awaited, Config, at, sum_in, sum_all}
use Rattle.calculus.specs.Lists.{each_below, sum_below}
use Rattle.calculus.specs.Limits.{max_names, max_nodes}
use Rattle.calculus.specs.Step.{place}
use Rattle.calculus.specs.Image.{expression_test, handle_for, is_awaited, is_settled, nodes}
use Rattle.term.specs.Reader.{one_term, read_term}
use Rattle.term.specs.Expressions.{term_at}
use Rattle.calculus.specs.Kinds.{open_handle_kind}
use Rattle.image_layout.specs.Slice.{names, kind_at, expression_at, encoded_at}
use Rattle.image_layout.specs.Layout.{heads_stand}
use Rattle.image.specs.Configuration.{config_of, decode}

-- a name of a slice that keeps the layout
pub record Named (s : List ℕ) (k : ℕ) : Type 0 where
  pub heads : heads_stand s ≡ true
  pub below : k < names s

-- the component of name k
unfoldable pub component_of : List ℕ → ℕ → Component
component_of s k = decode (encoded_at s k)

-- the expression of name k is exactly one term, if it is to have one
unfoldable pub term_stands : List ℕ → ℕ → Bool
term_stands s k = leb open_handle_kind (kind_at s k) || one_term (read_term (expression_at s k))

-- what a component's expression must keep among m names
unfoldable pub expression_keeps : ℕ → Component → Bool
expression_keeps m (thread_of e) = expression_test m 0 e
expression_keeps m (holds v) = expression_test m 0 v && is_settled (place v)
expression_keeps m (open_for y) = true
expression_keeps m used = true
expression_keeps m awaited = true

-- what handles and futures must keep
unfoldable pub pair_keeps : Config → ℕ → Component → Bool
pair_keeps C k (thread_of e) = true
pair_keeps C k (holds v) = true
pair_keeps C k (open_for y) = is_awaited (at C y)
pair_keeps C k used = true
pair_keeps C k awaited = eqb (sum_all (handle_for k) C) 1

unfoldable pub nodes_of : List ℕ → ℕ → ℕ
nodes_of s k = sum_in nodes (component_of s k)

unfoldable pub expression_stands : List ℕ → ℕ → ℕ → Bool
expression_stands s m k = term_stands s k && expression_keeps m (component_of s k)

unfoldable pub pair_stands : List ℕ → ℕ → Bool
pair_stands s k = pair_keeps (config_of s) k (component_of s k)

-- answers: a number of nodes where a test passes
abbrev pub pick_part : Bool → ℕ → Option ℕ
pick_part true n = Some n
pick_part false n = None

-- of bytes that are to be an expression with at most `left` nodes
unfoldable pub expression_part : ℕ → ℕ → List ℕ → Option ℕ
expression_part m left l =
    pick_part (one_term (read_term l) && (expression_test m 0 (term_at l 0) && leb (nodes (term_at l 0)) left)) (nodes (term_at l 0))

-- of name k
unfoldable pub component_part : List ℕ → ℕ → ℕ → ℕ → Option ℕ
component_part s m left k = pick_part (expression_stands s m k && leb (nodes_of s k) left) (nodes_of s k)

-- of all names
unfoldable pub all_part : List ℕ → Option ℕ
all_part s = pick_part (each_below (names s) (expression_stands s (names s)) && leb (sum_below (names s) (nodes_of s)) max_nodes) (sum_below (names s) (nodes_of s))

unfoldable pub pairs_stand : List ℕ → Bool
pairs_stand s = each_below (names s) (pair_stands s)

-- of the first k names, how many are open handles with the companion y
unfoldable pub handles_below : List ℕ → ℕ → ℕ → ℕ
handles_below s k y = sum_below k (λ i. handle_for y (component_of s i))

-- a count for each name that an image may have
pub record Tally (s : List ℕ) (counts : List ℕ) : Type 0 where
  pub long : length counts ≡ max_names
  pub each : (y : ℕ) → y < max_names → get_or counts y 0 ≡ sum_all (handle_for y) (config_of s)

-- name k is one of m names, and `count` open handles have it as companion
pub record HandlesCounted (s : List ℕ) (m k count : ℕ) : Type 0 where
  pub named : Named s k
  pub all : m ≡ names s
  pub handles : count ≡ sum_all (handle_for k) (config_of s)
