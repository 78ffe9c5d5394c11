-- What T-05 says of outcomes and of room holds.
use Rattle.std.specs.Prelude.{◌≡◌, refl, ◌↔◌, List, [], ◌∷◌, ℕ, ◌*◌, ◌+◌, ◌-◌, ◌<◌, ◌≤◌, suc, length}
use Rattle.std.proofs.Common.{ap₂, arith, length-set}
use Rattle.std.proofs.Math.Decide.{dec_lt}
use Rattle.calculus.specs.Profile.{common}
use Rattle.calculus.specs.Bytes.{Bytes}
use Rattle.calculus.specs.Limits.{max_image_length, max_nodes}
use Rattle.calculus.specs.Causes.{room_cause}
use Rattle.calculus.specs.Syntax.{Exp, var, name, const, lam, app, both, case_of, thread_of, Config}
use Rattle.calculus.specs.Owners.{Owned, grown}
use Rattle.calculus.specs.Reduction.{Context, plug, Has, put, Rule, number, Reduces, beta, thread_new, future_deref, future_deref_exch, future_deref_case, handle_new, handle_bind, cell_new, cell_exch, case_both}
use Rattle.calculus.specs.Names.{uses}
use Rattle.calculus.specs.Image.{Closed, nodes, nodes_all, WithinLimits}
use Rattle.calculus.proofs.Theory.Tests.{clash}
use Rattle.calculus.proofs.Theory.Weights.{Weight, nodes_weight, size_weight, weigh_substitute}
use Rattle.calculus.proofs.Theory.WeightsOfTwo.{weigh_both}
use Rattle.term.specs.Expressions.{bytes}
use Rattle.term.proofs.Sizes.{length_bytes}
use Rattle.term_redex.proofs.Contexts.{closed_components, closed_subject, plug_closed, put_nodes}
use Rattle.image.specs.Configuration.{image_of}
use Rattle.step_spec.specs.declared.Outcome.TheVariants.{Rule as Answers, Refused}
use Rattle.step_spec.specs.Stepping.{outcome_of}
use Rattle.demands.specs.Demands.{ImageOf, Means}
use Rattle.demands.proofs.Theory.Second.{second_demand}
use Rattle.step_weight.specs.WeighedFirst.{PutsValues, PutsIn, puts_argument, puts_components, for_each_place, weighed, PutIn, WeighedFirst}

-- what the outcome weighs, in nodes or in bytes
weighs : {w : Exp → ℕ} {variable : ℕ} → Weight w variable → {by : Rule} {redex body outcome : Exp} {values : List Exp} → Closed 0 redex → PutsIn by redex body values outcome →
    w outcome + for_each_place (λ v. variable) 0 body values ≡ w body + for_each_place w 0 body values
unfolding for_each_place
weighs W c (puts_argument {e = e} {v = v} u) = omega (arith, weigh_substitute W 0 v e)
weighs W c (puts_components {e = e} {v₂ = v₂} u u') = omega (arith, weigh_both W (closed_components (closed_subject c).0).0 v₂ e)

-- a place less one, and the one
nodes_positive : (e : Exp) → 1 ≤ nodes e
unfolding nodes
nodes_positive (var i) = omega arith
nodes_positive (name k) = omega arith
nodes_positive (const c) = omega arith
nodes_positive (lam t e) = omega arith
nodes_positive (app f a) = omega arith
nodes_positive (both s t e₁ e₂) = omega arith
nodes_positive (case_of s e₁ e₂) = omega arith

with_one : (u m n : ℕ) → n ≡ m + 1 → u * m + u * 1 ≡ u * n
with_one u m n e = rw e (omega arith)

less_one : (u : ℕ) (v : Exp) → u * (nodes v - 1) + u * 1 ≡ u * nodes v
less_one u v = with_one u (nodes v - 1) (nodes v) (omega (arith, nodes_positive v))

places_less_one : (k : ℕ) (e : Exp) (values : List Exp) →
    for_each_place (λ v. nodes v - 1) k e values + for_each_place (λ v. 1) k e values ≡ for_each_place nodes k e values
unfolding for_each_place
places_less_one k e [] = refl
places_less_one k e (v ∷ values) = omega (arith, less_one (uses k e) v, places_less_one (suc k) e values)

-- the length of an expression's bytes is its size
places_same : {f g : Exp → ℕ} → ((e : Exp) → f e ≡ g e) → (k : ℕ) (e : Exp) (values : List Exp) → for_each_place f k e values ≡ for_each_place g k e values
unfolding for_each_place
places_same h k e [] = refl
places_same h k e (v ∷ values) = ap₂ (λ (m n : ℕ). uses k e * m + n) (h v) (places_same h (suc k) e values)

in_bytes : {by : Rule} {redex body outcome : Exp} {values : List Exp} → Closed 0 redex → PutsIn by redex body values outcome →
    length (bytes outcome) + for_each_place (λ v. length (bytes (var 0))) 0 body values ≡ length (bytes body) + for_each_place (λ v. length (bytes v)) 0 body values
unfolding bytes
in_bytes {by} {redex} {body} {outcome} {values} c p =
    omega (arith, weighs size_weight c p, length_bytes outcome, length_bytes body, places_same (λ v. length_bytes v) 0 body values)

-- Fig. 5, or Fig. 10's case, has this move
moves : (C : Config) (x : ℕ) (F : Context) {by : Rule} {redex body e : Exp} {values : List Exp} → Has C x F redex → PutsIn by redex body values e → Reduces C x by (put C x F e)
moves C x F h (puts_argument {t = t} {e = e} {v = v} u) = beta F t e v u h
moves C x F h (puts_components {s = s} {t = t} {e = e} {v₁ = v₁} {v₂ = v₂} u u') = case_both F s t v₁ v₂ e u u' h

-- and a move by one of these rules is one of these
record Found (C : Config) (x : ℕ) (by : Rule) (C' : Config) : Type 0 where
  context : Context
  redex : Exp
  body : Exp
  values : List Exp
  outcome : Exp
  thread : Has C x context redex
  puts : PutsIn by redex body values outcome
  is : C' ≡ put C x context outcome

found : {C C' : Config} {x : ℕ} {by : Rule} → PutsValues (number by) → Reduces C x by C' → Found C x by C'
found p (beta F t e v u h) = record { context = F; redex = _; body = _; values = _; outcome = _; thread = h; puts = puts_argument u; is = refl }
found p (case_both F s t v₁ v₂ e u u' h) = record { context = F; redex = _; body = _; values = _; outcome = _; thread = h; puts = puts_components u u'; is = refl }
found p (thread_new F t v u h) = elim p [ ]
found p (future_deref F y v w u u' h g) = elim p [ ]
found p (future_deref_exch F t y v w u u' h g) = elim p [ ]
found p (future_deref_case F s y w e u h g) = elim p [ ]
found p (handle_new F t v u h) = elim p [ ]
found p (handle_bind F z y v u h g) = elim p [ ]
found p (cell_new F t v u h) = elim p [ ]
found p (cell_exch F t y v₁ v₂ u h g) = elim p [ ]

module _ (image : List ℕ) (b : Bytes image) (I : Owned) (io : ImageOf image I) (x : ℕ) (out : List ℕ) {by : Rule} (F : Context) {redex body e : Exp} {values : List Exp}
    (h : Has I.config x F redex) (p : PutsIn by redex body values e) where
  closed_redex : Closed 0 redex
  closed_redex = plug_closed F redex (io.rule.bound x (thread_of (plug F redex)) h)

  nodes_told : nodes e ≡ weighed body values
  nodes_told = omega (arith, weighs nodes_weight closed_redex p, places_less_one 0 body values)

  -- the nodes of all names after the step
  all_told : nodes_all (put I.config x F e) + nodes redex ≡ nodes_all I.config + weighed body values
  all_told = omega (arith, put_nodes I.config x F redex h e, nodes_told)

  fits : nodes_all I.config + weighed body values ≤ max_nodes + nodes redex → WithinLimits (put I.config x F e)
  fits le = record { few_names = omega (arith, length-set I.config x (thread_of (plug F e)), io.rule.limits.few_names); few_nodes = omega (arith, all_told) }

  module _ (long : max_image_length ≤ length out) where
    goes : nodes_all I.config + weighed body values ≤ max_nodes + nodes redex → outcome_of common image x out ≡ Answers (number by) (length (image_of (grown I x (put I.config x F e))))
    goes le = (((second_demand common).step image b x out).rule (number by) _).1 (long, I, io, (by, put I.config x F e, moves I.config x F h p, fits le, refl, refl))

    lacks : max_nodes + nodes redex < nodes_all I.config + weighed body values → outcome_of common image x out ≡ Refused room_cause
    lacks lt = ((second_demand common).step image b x out).fifteen.1 (long, I, io, (by, put I.config x F e, moves I.config x F h p, λ l. omega (arith, l.few_nodes, all_told)))

    is_room : (outcome_of common image x out ≡ Answers (number by) (length (image_of (grown I x (put I.config x F e))))) ↔ (nodes_all I.config + weighed body values ≤ max_nodes + nodes redex)
    is_room = (
      λ q. elim (dec_lt (max_nodes + nodes redex) (nodes_all I.config + weighed body values)) [ yes lt ↦ let r = lacks lt in absurd (clash (cc)) | no n ↦ omega (arith, n) ],
      goes,
    )

    is_no_room : (outcome_of common image x out ≡ Refused room_cause) ↔ (max_nodes + nodes redex < nodes_all I.config + weighed body values)
    is_no_room = (
      λ q. elim (dec_lt (max_nodes + nodes redex) (nodes_all I.config + weighed body values)) [ yes lt ↦ lt | no n ↦ let r = goes (omega (arith, n)) in absurd (clash (cc)) ],
      lacks,
    )

told : (image : List ℕ) → Bytes image → (x : ℕ) (out : List ℕ) (rule size : ℕ) → PutsValues rule →
    outcome_of common image x out ≡ Answers rule size → Means image out (PutIn image x out rule)
told image b x out rule size p q =
    let demand = (second_demand common).step image b x out in
    let (long, I, io, (by, C', red, lim, n, z)) = (demand.rule rule size).0 q in
    let f = found (rw n at p) red in
    let F = f.context in
    let e = f.outcome in
    let closed = closed_redex image b I io x out F f.thread f.puts in (
      long,
      I,
      io,
      record {
        by = by;
        context = F;
        redex = f.redex;
        body = f.body;
        values = f.values;
        outcome = e;
        is_rule = n;
        thread = f.thread;
        puts = f.puts;
        written = rw f.is at (demand.rule_image I C' by io red lim long);
        nodes_are = nodes_told image b I io x out F f.thread f.puts;
        bytes_are = in_bytes closed f.puts;
      },
    )

pub weighed_first : WeighedFirst
weighed_first = record {
  outcome = told;
  room = λ image b I io x out long F h p. is_room image b I io x out F h p long;
  no_room = λ image b I io x out long F h p. is_no_room image b I io x out F h p long;
}
