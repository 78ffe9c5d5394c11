-- The types of the bays, added one by one.
use mathlib.Core.Path.{◌∙◌, ◌≡◌, ap, refl, sym}
use mathlib.Core.Bool.{Bool, ◌&&◌, false, not, true}
use mathlib.Core.Option as math
use mathlib.Core.List.{List, [], ◌∷◌}
use Prim.Native.Nat.{◌+◌, ◌<◌, ◌≤◌, ℕ}
use native.Mathlib.Numerals.{add-one}
use native.Mathlib.Omega.{arith}
use lib.ListN.{replicate, set}
use Rattle.calculus.specs.Causes.{type_cause, linearity_cause, bay_once_cause}
use Rattle.calculus.specs.Lowest.{cause, first_cause}
use Rattle.calculus.specs.Lists.{each_below, tabulate}
use Rattle.calculus.specs.Limits.{max_bays}
use Rattle.calculus.specs.Table.{is_many}
use Rattle.calculus.specs.Verdict.{on_number}
use Rattle.calculus.proofs.Theory.Tests.{clash}
use Rattle.calculus.proofs.Theory.Tabulate.{filled_to, filled_next, filled_none}
use Rattle.recipe_file.specs.File.{bays, term_bytes}
use Rattle.recipe_table.specs.Entries.{type_table}
use Rattle.std.proofs.Common.{None, Option, Some}
use Rattle.check_types.specs.Walk as walk
use Rattle.check_types.proofs.Walks.{same_number}
use Rattle.check_walk.specs.Walk.{Answer, Decides, types_in, walked}
use Rattle.check_spec.specs.Bays.{bay_term}
use Rattle.check_spec.specs.Verdict.{number_in, bay_type_number, bay_type_numbers}
use Rattle.check_bays.specs.Numbers.{bay_linear, bay_number, has_many, has_type, Numbered, TypesOf, types_refusal}
use Rattle.check_bays.specs.declared.BayTypes.{BayTypes}
use Rattle.check_bays.proofs.Each.{failed, Passed, passed_all, passed_next, passed_none}

-- the number of a bay's type, 0 where it has none
unfoldable pub number_of : List ℕ → ℕ → ℕ
number_of s bay = number_in (bay_number s bay)

-- the loop stands at a bay
pub record Typing (s : List ℕ) (bay : ℕ) (linear many : Bool) (numbers : List ℕ) : Type 0 where
  pub passed : Passed (bays s) (has_type s) bay
  pub all_linear : linear ≡ each_below bay (bay_linear s)
  pub all_many : many ≡ each_below bay (has_many s)
  pub filled : numbers ≡ tabulate max_bays (filled_to (number_of s) bay)

pub typing_none : (s : List ℕ) → Typing s 0 true true (replicate max_bays 0)
unfolding each_below
typing_none s = record { passed = passed_none _ _; all_linear = refl; all_many = refl; filled = filled_none max_bays (number_of s) }

-- what the walk answers
found : (o : math.Option ℕ) (n end end' : ℕ) → walk.has n end ≡ walk.typed o end' → o ≡ math.some n
unfolding walk.typed
found math.none n end end' e = absurd (clash (cc))
found (math.some m) n end end' e = ap math.some (sym (same_number e))

missing : (o : math.Option ℕ) (end : ℕ) → None ≡ walk.typed o end → o ≡ math.none
unfolding walk.typed
missing math.none end e = refl
missing (math.some m) end e = absurd (clash (cc))

module _ (s : List ℕ) (bay : ℕ) (b : bay < bays s) {r : Answer} (d : Decides (type_table s) (term_bytes s bay) r) where
  number_is : (n end : ℕ) (k : Bool) → r ≡ walked n end k → bay_number s bay ≡ math.some n
  unfolding types_in walk.typed_at bay_number bay_term
  number_is n end k e = found _ n end _ (sym (ap types_in e) ∙ d.types)

  pub typing_next : {linear many : Bool} {numbers : List ℕ} (n end : ℕ) (k m next all : Bool) → Typing s bay linear many numbers → r ≡ walked n end k
      → m ≡ is_many (type_table s) n → next ≡ (many && m) → all ≡ (linear && k) → Typing s (bay + 1) all next (set numbers bay n)
  unfolding has_type has_many bay_linear bay_term on_number each_below number_of number_in
  typing_next {linear} {many} {numbers} n end k m next all t e f g z =
      let i = number_is n end k e in
      record {
        passed = passed_next t.passed b (has_type s bay) refl (rw i refl);
        all_linear = rw (add-one bay, z, t.all_linear, ← (d.uses n end k e)) refl;
        all_many = rw (add-one bay, g, f, t.all_many, i) refl;
        filled = rw t.filled (filled_next max_bays (number_of s) bay n (sym (rw i refl)));
      }

  pub typing_not : r ≡ None → Numbered s None
  unfolding has_type on_number types_in walk.typed_at bay_number bay_term
  typing_not e = record {
    each = sym (failed (bays s) (has_type s) bay b (has_type s bay) refl (rw (missing _ _ (sym (ap types_in e) ∙ d.types)) refl));
    types = tt;
  }

pub typing_all : {s : List ℕ} {bay : ℕ} {linear many : Bool} {numbers : List ℕ} → Typing s bay linear many numbers → bays s ≤ bay
    → Numbered s (Some (record { linear = linear; many = many; numbers = numbers }))
unfolding bay_type_numbers bay_type_number filled_to number_of bay_number
typing_all {s} {bay} t h =
    let z : bays s ≡ bay = omega (arith, t.passed.inside) in
    record {
      each = sym (passed_all t.passed h);
      types = record {
        linear = rw z t.all_linear;
        many = rw z t.all_many;
        numbers = t.filled ∙ ap (λ (n : ℕ). tabulate max_bays (filled_to (number_of s) n)) (sym z);
      };
    }

-- the lowest of causes 9 to 11, by what is answered of all bays
module _ {s : List ℕ} {r : Option BayTypes} (n : Numbered s r) where
  pub first_untyped : r ≡ None → type_cause ≡ types_refusal s
  unfolding types_refusal
  first_untyped e = rw (← n.each, e) refl

  module _ {types : BayTypes} (e : r ≡ Some types) where
    pub typed : TypesOf s types
    typed = rw e at n.types

    decided : first_cause (cause linearity_cause (not types.linear) ∷ cause bay_once_cause (not types.many) ∷ []) ≡ types_refusal s
    unfolding types_refusal
    decided = rw (← n.each, e, typed.linear, typed.many) refl

    pub first_not_linear : types.linear ≡ false → linearity_cause ≡ types_refusal s
    first_not_linear p = rw p at decided

    pub first_not_many : types.linear ≡ true → types.many ≡ false → bay_once_cause ≡ types_refusal s
    first_not_many p q = rw (p, q) at decided

    pub none_first : types.linear ≡ true → types.many ≡ true → 0 ≡ types_refusal s
    none_first p q = rw (p, q) at decided
