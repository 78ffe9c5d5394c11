-- A node with two subterms: the entry that decides its type, its type from those of its subterms, and the variables that the second has more.
use Rattle.std.specs.Prelude.{◌≡◌, Bool, ◌||◌, cond, true, List, ◌∷◌, ◌+◌, ◌<◌, suc, zero, ℕ, eqb, set}
use Rattle.std.proofs.Math.Option.{Option, some}
use Rattle.calculus.specs.Limits.{byte_values}
use Rattle.calculus.specs.Syntax.{Shape, pair, list}
use Rattle.calculus.specs.Table.{Entry}
use Rattle.calculus.specs.Verdict.{is_kind_of, second_number, both_number, result_number}
use Rattle.term.specs.Forms.{pair_tag, list_tag, case_list_tag, is_case_tag}

-- T-03: "10 pair and 11 list front"
unfoldable pub is_both_tag : ℕ → Bool
is_both_tag tag = eqb tag pair_tag || eqb tag list_tag

-- T-03: of these and of cases, 11 and 13 are of lists
unfoldable pub is_list_tag : ℕ → Bool
is_list_tag tag = eqb tag list_tag || eqb tag case_list_tag

-- Fig. 10: products and lists
unfoldable pub shape_of : ℕ → Shape
shape_of tag = cond (is_list_tag tag) list pair

-- Figs. 9 and 10: the number of the type whose entry decides: a pair's or front's own, else that of the function or of the case's subject
unfoldable pub deciding : ℕ → ℕ → ℕ → ℕ
deciding tag arg first = cond (is_both_tag tag) arg first

-- T-03, "each with its type number": of a pair or front the number after the tag is one byte
pub record Annotated (tag arg : ℕ) : Type 0 where
  pub small : is_both_tag tag ≡ true → arg < byte_values

-- Fig. 10: a case's subject has a type of the kind that it takes apart; no other form asks before its second subterm
unfoldable pub can_open : ℕ → ℕ → Bool
can_open tag kind = cond (is_case_tag tag) (is_kind_of (shape_of tag) kind) true

-- Figs. 9 and 10: the type of the node, where t has the entry that decides, from the numbers of its subterms' types
unfoldable pub two_number : ℕ → Entry → ℕ → ℕ → ℕ → Option ℕ
two_number tag x t first second =
    cond (is_case_tag tag) (some second) (cond (is_both_tag tag) (both_number (shape_of tag) t (some x) (some first) (some second)) (result_number (some x) second))

-- Fig. 10: the number of the type of the second component, where the entry of t has q
abbrev pub second_component : ℕ → ℕ → ℕ → ℕ
second_component tag t q = second_number (shape_of tag) t q

-- T-03, "two more variables, index 0 the second component": the numbers of the variables' types in the second subterm, which has none or two more
unfoldable pub scope_inside : ℕ → ℕ → ℕ → List ℕ → List ℕ
scope_inside zero p q Δ = Δ
scope_inside (suc binders) p q Δ = q ∷ p ∷ Δ

-- the same in an array: what the two variables have stands at a level and at the next
unfoldable pub opened : ℕ → List ℕ → ℕ → ℕ → ℕ → List ℕ
opened zero a level x y = a
opened (suc binders) a level x y = set (set a level x) (level + 1) y
