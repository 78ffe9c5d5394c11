-- Document 01, "The image": what cause 13 asks of what an image holds, its limits with it, as a proposition and as a test. Layout is about bytes, and
-- not here.
use Rattle.std.specs.Prelude.{◌≡◌, Bool, ◌&&◌, cond, false, true, [], ◌∷◌, ◌*◌, ◌+◌, ◌<◌, ◌≤◌, suc, ℕ, eqb, ltb, length}
use Rattle.std.proofs.Math.Option.{Option, none, some}
use Rattle.calculus.specs.Names.{count}
use Rattle.calculus.specs.Syntax.{Const, unit, num, op, Shape, Exp, var, name, const, lam, app, both, case_of, Value, Component, thread_of, holds, open_for, used, awaited, Config, at, Allowed, In, sum_in, sum_all}
use Rattle.calculus.specs.Step.{Place, place, on_place}
use Rattle.calculus.specs.Bytes.{two_byte_values}
use Rattle.calculus.specs.Limits.{max_names, max_nodes, byte_values, first_head, head_length}

-- document 01, "variables are bound inside them": every variable of e is bound in e, or is one of `depth` variables around it
pub data Closed : ℕ → Exp → Type 0 where
  closed_var : {depth i : ℕ} → i < depth → Closed depth (var i)
  closed_name : {depth k : ℕ} → Closed depth (name k)
  closed_const : {depth : ℕ} {c : Const} → Closed depth (const c)
  closed_lam : {depth t : ℕ} {e : Exp} → Closed (suc depth) e → Closed depth (lam t e)
  closed_app : {depth : ℕ} {f a : Exp} → Closed depth f → Closed depth a → Closed depth (app f a)
  closed_both : {depth : ℕ} {s : Shape} {t : ℕ} {e₁ e₂ : Exp} → Closed depth e₁ → Closed depth e₂ → Closed depth (both s t e₁ e₂)
  closed_case : {depth : ℕ} {s : Shape} {e₁ e₂ : Exp} → Closed depth e₁ → Closed (suc (suc depth)) e₂ → Closed depth (case_of s e₁ e₂)

-- document 01, "every node of every expression counted"
unfoldable pub nodes : Exp → ℕ
nodes (var i) = 1
nodes (name k) = 1
nodes (const c) = 1
nodes (lam t e) = suc (nodes e)
nodes (app f a) = suc (nodes f + nodes a)
nodes (both s t e₁ e₂) = suc (nodes e₁ + nodes e₂)
nodes (case_of s e₁ e₂) = suc (nodes e₁ + nodes e₂)

-- document 01, the table of node forms, and T-03: how many bytes an expression takes, the tag and what is after it
unfoldable pub const_size : Const → ℕ
const_size unit = 1
const_size (num n) = 3
const_size (op o t) = 2

unfoldable pub size : Exp → ℕ
size (var i) = 2
size (name k) = 2
size (const c) = const_size c
size (lam t e) = 2 + size e
size (app f a) = suc (size f + size a)
size (both s t e₁ e₂) = 2 + (size e₁ + size e₂)
size (case_of s e₁ e₂) = suc (size e₁ + size e₂)

abbrev pub nodes_all : Config → ℕ
nodes_all C = sum_all (sum_in nodes) C

-- document 01, "a two-byte m", "m heads of six bytes", "then the expressions": the length of the image that holds C
abbrev pub image_length : Config → ℕ
image_length C = first_head + head_length * length C + sum_all (sum_in size) C

-- document 01, "At most 256 names and 4,096 nodes in all"
pub record WithinLimits (C : Config) : Type 0 where
  pub few_names : length C ≤ max_names
  pub few_nodes : nodes_all C ≤ max_nodes

-- what an image has to keep: cause 13 does not fit
pub record ImageRule (C : Config) : Type 0 where
  -- "variables are bound inside them"
  pub bound : (x : ℕ) (c : Component) → at C x ≡ some c → In (Closed 0) c
  -- "names are below m"
  pub names_below : (x : ℕ) (c : Component) → at C x ≡ some c → (k : ℕ) → length C ≤ k → sum_in (count k) c ≡ 0
  -- "Cells hold values"
  pub cells : (x : ℕ) (v : Exp) → at C x ≡ some (holds v) → Value v
  -- "each open handle's companion is of kind 5"
  pub companions : (z y : ℕ) → at C z ≡ some (open_for y) → at C y ≡ some awaited
  -- "Each kind-5 name is the companion of exactly one open handle"
  pub futures : (y : ℕ) → at C y ≡ some awaited → (z : ℕ) × (at C z ≡ some (open_for y)) × ((z' : ℕ) → at C z' ≡ some (open_for y) → z' ≡ z)
  -- "At most 256 names and 4,096 nodes in all"
  pub limits : WithinLimits C

-- the same as a test that computes (Theory.ImageTest, `image_test_iff`).
-- "variables are bound inside them, names are below m"
unfoldable pub expression_test : ℕ → ℕ → Exp → Bool
expression_test m depth (var i) = ltb i depth
expression_test m depth (name k) = ltb k m
expression_test m depth (const c) = true
expression_test m depth (lam t e) = expression_test m (suc depth) e
expression_test m depth (app f a) = expression_test m depth f && expression_test m depth a
expression_test m depth (both s t e₁ e₂) = expression_test m depth e₁ && expression_test m depth e₂
expression_test m depth (case_of s e₁ e₂) = expression_test m depth e₁ && expression_test m (suc (suc depth)) e₂

-- "Cells hold values"
unfoldable pub is_settled : Place → Bool
is_settled p = on_place p true false λ F r d. false

-- "each open handle's companion is of kind 5"
unfoldable pub is_awaited : Option Component → Bool
is_awaited (some awaited) = true
is_awaited (some (thread_of e)) = false
is_awaited (some (holds e)) = false
is_awaited (some (open_for y)) = false
is_awaited (some used) = false
is_awaited none = false

-- whether a component is an open handle for y, in numbers
unfoldable pub handle_for : ℕ → Component → ℕ
handle_for y (open_for z) = cond (eqb z y) 1 0
handle_for y (thread_of e) = 0
handle_for y (holds e) = 0
handle_for y used = 0
handle_for y awaited = 0

-- the component of name k of C keeps its rules
unfoldable pub component_test : Config → ℕ → Component → Bool
component_test C k (thread_of e) = expression_test (length C) 0 e
component_test C k (holds v) = expression_test (length C) 0 v && is_settled (place v)
component_test C k (open_for y) = is_awaited (at C y)
component_test C k used = true
component_test C k awaited = eqb (sum_all (handle_for k) C) 1

-- each component passes, the first having name k
unfoldable pub each_test : (ℕ → Component → Bool) → ℕ → Config → Bool
each_test test k [] = true
each_test test k (c ∷ C) = test k c && each_test test (suc k) C

-- "At most 256 names and 4,096 nodes in all", of two counts
abbrev pub within_limits : ℕ → ℕ → Bool
within_limits names nodes = ltb names (suc max_names) && ltb nodes (suc max_nodes)

-- cause 13 does not fit
unfoldable pub image_test : Config → Bool
image_test C = each_test (component_test C) 0 C && within_limits (length C) (nodes_all C)

-- the limits of a configuration, as one test
unfoldable pub limits_test : Config → Bool
limits_test C = within_limits (length C) (nodes_all C)

-- what the node forms can write: "index byte", "type number" in one byte, a num's "two-byte value". Of names `ImageRule` says it.
abbrev pub WritableConst : Const → Type 0
WritableConst unit = Unit {0}
WritableConst (num n) = n < two_byte_values
WritableConst (op o t) = t < byte_values

abbrev pub Writable : Allowed
Writable = record { index = λ i. i < byte_values; annotation = λ t. t < byte_values; constant = WritableConst }
