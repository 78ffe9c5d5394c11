-- Looking along names: what the loop keeps, and a law for each way through it.
use mathlib.Core.Path.{◌∙◌, ◌≡◌, ap, refl, subst, subst⁻¹}
use mathlib.Core.Bool.{Bool, false, true}
use mathlib.Core.List.{List, ◌∷◌}
use Prim.Native.Nat.{ℕ, suc, ◌+◌, ◌-◌, ◌<◌, ◌≤◌}
use native.Mathlib.Omega.{arith}
use Rattle.std.specs.Prelude.{Result, Ok, Err}
use Rattle.image_layout.specs.Slice.{names}
use Rattle.step_look.specs.declared.Going.{Going}
use Rattle.run_spec.specs.Course.{Look, Search, going_round, look, look_along, looking_on, search_from, upward}
use Rattle.run_spec.proofs.Theory.Searching.{going_on, search_append}
use Rattle.run_turn.specs.declared.Sight.TheVariants.{Goes as SightGoes, LacksRoom, Rests, PassesOn}
use Rattle.run_turn.specs.declared.Halt.{Halt}
use Rattle.run_turn.specs.declared.Halt.TheVariants.{Nobody, Met}
use Rattle.run_turn.specs.Turning.{Finds, Seen, finds, finds_nobody, goes, lacks_room, meets, passes_on, rests}

-- what is left to look along
pub record Along (s : List ℕ) (from to : ℕ) (before : Bool) (x : ℕ) (lacked : Bool) : Type 0 where
  pub inside : x ≤ to
  pub same : look_along s before (upward from (to - from)) ≡ look_along s lacked (upward x (to - x))

upward_first : (x to : ℕ) → x < to → upward x (to - x) ≡ x ∷ upward (x + 1) (to - (x + 1))
unfolding upward
upward_first x to l = let e : to - x ≡ suc (to - (x + 1)) = omega arith in rw e refl

module _ {s : List ℕ} {from to : ℕ} {before : Bool} {x : ℕ} {lacked : Bool} (a : Along s from to before x lacked) where
  by_look : x < to → {k : Look} → look s x ≡ k → look_along s before (upward from (to - from)) ≡ looking_on k x lacked (λ l. look_along s l (upward (x + 1) (to - (x + 1))))
  unfolding look_along
  by_look l {k} e = a.same ∙ ap (look_along s lacked) (upward_first x to l) ∙ ap (λ (k : Look). looking_on k x lacked (λ l. look_along s l (upward (x + 1) (to - (x + 1))))) e

  pub along_rests : x < to → Seen s x Rests → Along s from to before (x + 1) lacked
  unfolding looking_on
  along_rests l (rests e) = record { inside = omega arith; same = by_look l e }

  pub along_lacks : x < to → Seen s x LacksRoom → Along s from to before (x + 1) true
  unfolding looking_on
  along_lacks l (lacks_room e) = record { inside = omega arith; same = by_look l e }

  pub along_goes : x < to → {going : Going} → Seen s x (SightGoes going) → Finds s (look_along s before (upward from (to - from))) (Ok going)
  unfolding looking_on
  along_goes l (goes g e) = finds g (by_look l e)

  pub along_met : x < to → {number : ℕ} → Seen s x (PassesOn number) → Finds s (look_along s before (upward from (to - from))) (Err (Met number))
  unfolding looking_on
  along_met l (passes_on e) = meets (by_look l e)

  pub along_end : (x < to → ⊥) → Finds s (look_along s before (upward from (to - from))) (Err (Nobody lacked))
  unfolding upward look_along
  along_end l = let e : to - x ≡ 0 = omega (arith, a.inside) in finds_nobody (a.same ∙ ap (λ (i : ℕ). look_along s lacked (upward x i)) e)

-- one part of a round after the other
module _ (s : List ℕ) (next : ℕ) where
  round : search_from s next ≡ going_on (look_along s false (upward next (names s - next))) (λ l. look_along s l (upward 0 next))
  unfolding search_from going_round
  round = search_append s false (upward next (names s - next)) (upward 0 next)

  round_is : {q : Search} → look_along s false (upward next (names s - next)) ≡ q → search_from s next ≡ going_on q (λ l. look_along s l (upward 0 next))
  round_is e = round ∙ ap (λ (q : Search). going_on q (λ l. look_along s l (upward 0 next))) e

  goes_first : {going : Going} → Finds s (look_along s false (upward next (names s - next))) (Ok going) → Finds s (search_from s next) (Ok going)
  unfolding going_on
  goes_first (finds g e) = finds g (round_is e)

  met_first : {number : ℕ} → Finds s (look_along s false (upward next (names s - next))) (Err (Met number)) → Finds s (search_from s next) (Err (Met number))
  unfolding going_on
  met_first (meets e) = meets (round_is e)

  both : {l : Bool} {r : Result Going Halt} → Finds s (look_along s false (upward next (names s - next))) (Err (Nobody l)) → Finds s (look_along s l (upward 0 next)) r → Finds s (search_from s next) r
  unfolding going_on
  both {l} {r} (finds_nobody e) f = subst⁻¹ (λ (q : Search). Finds s q r) (round_is e) f

  -- the first part, up to the number of names
  module _ {m : ℕ} (e : m ≡ names s) {r : Result Going Halt} (f : Finds s (look_along s false (upward next (m - next))) r) where
    first : Finds s (look_along s false (upward next (names s - next))) r
    first = subst (λ (m : ℕ). Finds s (look_along s false (upward next (m - next))) r) e f

    -- it has found a thread
    pub round_goes : {going : Going} → r ≡ Ok going → Finds s (search_from s next) (Ok going)
    round_goes is = goes_first (subst (Finds _ _) is first)

    -- or a number
    pub round_met : {number : ℕ} → r ≡ Err (Met number) → Finds s (search_from s next) (Err (Met number))
    round_met is = met_first (subst (Finds _ _) is first)

    -- or nobody, and the second goes on
    pub round_on : {l : Bool} {r' : Result Going Halt} → r ≡ Err (Nobody l) → Finds s (look_along s l (upward 0 (next - 0))) r' → Finds s (search_from s next) r'
    round_on {l} {r'} is f' =
        let zero : next - 0 ≡ next = omega arith in
        both (subst (Finds _ _) is first) (subst (λ (n : ℕ). Finds s (look_along s l (upward 0 n)) r') zero f')
