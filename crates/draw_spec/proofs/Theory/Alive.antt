-- An image that a run of an accepted recipe comes to has a thread, and so has the image after each draw.
use Rattle.std.proofs.Common.{◌∙◌, arith}
use Rattle.std.specs.Prelude.{◌≡◌, true, List, [], ◌∷◌, ◌++◌, map, ℕ, zero, suc, ◌%◌, ◌+◌, ◌<◌, ◌≤◌, set}
use Rattle.std.proofs.Math.Path.{ap, refl, subst, sym}
use Rattle.std.proofs.Math.Option.{some}
use Rattle.std.proofs.Math.Nat.{mod-lt}
use Rattle.std.proofs.Math.ListN.{length}
use Rattle.calculus.specs.Profile.{common}
use Rattle.calculus.specs.Bytes.{Bytes}
use Rattle.calculus.specs.Owners.{Owned}
use Rattle.calculus.specs.Typing.{TypeNumbers}
use Rattle.calculus.specs.Syntax.{unit, const, name, app, Component, thread_of, holds, used, Config, Exp, at}
use Rattle.calculus.specs.Reduction.{plug, Rule, Reduces, beta, thread_new, future_deref, future_deref_exch, handle_new, handle_bind, cell_new, cell_exch, future_deref_case, case_both}
use Rattle.calculus.specs.Step.{step_of}
use Rattle.calculus.specs.Limits.{max_image_length, max_names}
use Rattle.calculus.specs.State.{State}
use Rattle.calculus.specs.Reply.{Reply, moved, waits, finished, refuses, reply_to}
use Rattle.calculus.specs.Recipe.{setting_with, loaded}
use Rattle.calculus.specs.Table.{type_at}
use Rattle.calculus.proofs.Theory.Tests.{and_parts, clash}
use Rattle.calculus.proofs.Theory.Lists.{append_left, append_right, at_below, set_other}
use Rattle.calculus.proofs.Theory.Replies.{moved_answer}
use Rattle.calculus.proofs.Theory.ConfigRuns.{ConfigStep, ReplyGoes, config_steps, state_after, state_left}
use Rattle.recipe_file.specs.Starting.{starting_nums}
use Rattle.recipe_table.specs.Entries.{type_table}
use Rattle.check_spec.specs.Bays.{bay_terms}
use Rattle.check_spec.specs.Verdict.{refusal}
use Rattle.image_layout.specs.Layout.{heads_stand}
use Rattle.image_layout.specs.Slice.{names}
use Rattle.image.specs.Configuration.{config_of, image_of}
use Rattle.image.specs.Stands.{image_stands}
use Rattle.image.proofs.Theory.Maps.{at_map}
use Rattle.load_spec.specs.Starting.{starting_image, starting_state}
use Rattle.load_spec.proofs.Theory.Image.{says}
use Rattle.step_spec.specs.Stepping.{step_reply}
use Rattle.step_spec.proofs.Theory.Exactly.{step_is}
use Rattle.demands.proofs.Theory.Reached.{Reached, long_reply, reached_after, reached_kept, reached_names, reached_reads, reached_rules, reached_stands, reached_start, stepping}
use Rattle.draw_spec.specs.Draws.{image_after, has_thread_kind, picked, threads}
use Rattle.draw_spec.proofs.Theory.Threads.{counted, is_counted, listed_thread, thread_listed}

-- x is a thread
pub record ThreadOf (C : Config) (x : ℕ) : Type 0 where
  pub expression : Exp
  pub there : at C x ≡ some (thread_of expression)

is : {C : Config} {x : ℕ} {e : Exp} → at C x ≡ some (thread_of e) → ThreadOf C x
is {e = e} h = record { expression = e; there = h }

-- a thread stays one: where the configuration grows, where another name changes, where some name becomes a thread
grown : (C D : Config) (x : ℕ) → ThreadOf C x → ThreadOf (C ++ D) x
grown C D x t = is (append_left C D x t.there)

beside : (C : Config) (x y : ℕ) (c : Component) → ¬ (x ≡ y) → ThreadOf C x → ThreadOf (set C y c) x
beside C x y c n t = is (set_other C y x c n ∙ t.there)

rewritten : (C : Config) (x y : ℕ) (v : Exp) → ThreadOf C x → ThreadOf (set C y (thread_of v)) x
rewritten [] x y v t = let h = t.there in absurd (clash (cc))
rewritten (c ∷ C) zero zero v t = is refl
rewritten (c ∷ C) zero (suc y) v t = is t.there
rewritten (c ∷ C) (suc x) zero v t = is t.there
rewritten (c ∷ C) (suc x) (suc y) v t = let r = rewritten C x y v (is t.there) in is r.there

-- a name that is a thread is no other kind's
apart : (C : Config) (x y : ℕ) {e : Exp} {c : Component} → at C x ≡ some (thread_of e) → at C y ≡ some c → ¬ (thread_of e ≡ c) → ¬ (x ≡ y)
apart C x y h k n q = n (let p = ap (at C) q in cc)

-- "that thread is stepped": whatever rule moves it, it is a thread then
stays_thread : {C C' : Config} {x : ℕ} {r : Rule} → Reduces C x r C' → ThreadOf C' x
stays_thread {C} {x = x} (beta F t e v w h) = rewritten C x x _ (is h)
stays_thread {C} {x = x} (thread_new F t v w h) = grown _ _ x (rewritten C x x (plug F (name (length C))) (is h))
stays_thread {C} {x = x} (future_deref F y v w wv ww h k) = rewritten C x x _ (is h)
stays_thread {C} {x = x} (future_deref_exch F t y v w wv ww h k) = rewritten C x x _ (is h)
stays_thread {C} {x = x} (handle_new F t v w h) = grown _ _ x (rewritten C x x (plug F (app (app v (name (length C))) (name (length C + 1)))) (is h))
stays_thread {C} {x = x} (handle_bind F z y v w h k) =
    beside _ x z used (apart C x z h k (λ q. clash (cc))) (rewritten _ x y v (rewritten C x x (plug F (const unit)) (is h)))
stays_thread {C} {x = x} (cell_new F t v w h) = grown _ _ x (rewritten C x x (plug F (name (length C))) (is h))
stays_thread {C} {x = x} (cell_exch F t y v₁ v₂ w h k) = beside _ x y (holds v₁) (apart C x y h k (λ q. clash (cc))) (rewritten C x x (plug F v₂) (is h))
stays_thread {C} {x = x} (future_deref_case F s y w e ww h k) = rewritten C x x _ (is h)
stays_thread {C} {x = x} (case_both F s t v₁ v₂ e w w' h) = rewritten C x x _ (is h)

-- an image that a run comes to, and a thread of it
pub record Alive (image : List ℕ) : Type 0 where
  pub numbers : TypeNumbers
  pub state : State
  pub reached : Reached common numbers state
  pub is : image ≡ image_of state.owned
  pub one : (x : ℕ) × ThreadOf state.owned.config x

-- the image that an accepted recipe is loaded to: "b to 2b − 1 to the bays' threads"
pub alive_start : (file : List ℕ) → Bytes file → refusal file ≡ 0 → Alive (starting_image file)
unfolding starting_image loaded
alive_start file b accepted =
    let es = bay_terms file in
    let r = says file b accepted in
    let (e, h) = at_below es 0 (omega (arith, r.count, r.laid.has_parts.low)) in
    let front = map setting_with (starting_nums file) in
    record {
      numbers = type_at (type_table file);
      state = starting_state file;
      reached = reached_start common file b accepted;
      is = refl;
      one = (length front + 0, is (append_right front (map thread_of es) 0 ∙ at_map thread_of es 0 h));
    }

module _ {image : List ℕ} (a : Alive image) where
  pub alive_stands : image_stands image ≡ true
  alive_stands = ap image_stands a.is ∙ reached_stands a.reached

  pub alive_heads : heads_stand image ≡ true
  unfolding image_stands
  alive_heads = (and_parts (heads_stand image) _ alive_stands).0

  pub alive_few : names image ≤ max_names
  alive_few = omega (arith, ap names a.is ∙ reached_names a.reached, (reached_rules a.reached).limits.few_names)

  -- there is a thread to be picked
  pub alive_some : 0 < length (threads image)
  alive_some =
      let (x, t) = a.one in
      let (l, is) = thread_listed a.state.owned x t.there in
      rw a.is (omega (arith, (counted (image_of a.state.owned) (names (image_of a.state.owned)) x l is).1))

  -- "picks a thread"
  pub picked_listed : (state : ℕ) → (picked image state < names image) × (has_thread_kind image (picked image state) ≡ true)
  unfolding picked
  picked_listed state = is_counted image (names image) (state % length (threads image)) (omega (arith, mod-lt state alive_some))

  listed : (x : ℕ) → x < names image → has_thread_kind image x ≡ true → ThreadOf a.state.owned.config x
  listed x l t = let (e, h) = listed_thread a.state.owned x (rw a.is at l) (rw a.is at t) in is h

  pub picked_thread : (state : ℕ) → ThreadOf a.state.owned.config (picked image state)
  picked_thread state = let (l, t) = picked_listed state in listed (picked image state) l t

  -- the calculus's reply is the step's
  replies : (x : ℕ) → step_reply common image x max_image_length ≡ reply_to common a.state.owned x
  replies x =
      ap (λ (s : List ℕ). step_reply common s x max_image_length) a.is
      ∙ step_is common a.state.owned (reached_kept a.reached) x max_image_length (omega arith)

  -- "a rule, done, waiting or 15"
  pub picked_goes : (state : ℕ) → ReplyGoes (step_reply common image (picked image state) max_image_length)
  unfolding config_steps
  picked_goes state =
      let x = picked image state in
      let t = picked_thread state in
      let n : ConfigStep = record { before = a.state; call = stepping x } in
      let g = (a.reached.claim (stepping x ∷ [])).otherwise 0 n refl (omega arith) (t.expression, t.there) in
      subst ReplyGoes (long_reply a.reached x max_image_length (omega arith) ∙ sym (replies x)) g

  -- a rule: the new image is one that a run comes to, and has the thread that went
  alive_moved : (x : ℕ) {k : ℕ} {I' : Owned} → step_reply common image x max_image_length ≡ moved k I' → (b : Alive (image_of I')) × (b.state.owned ≡ I')
  unfolding state_left
  alive_moved x {k} {I'} e =
      let e' : reply_to common a.state.owned x ≡ moved k I' = sym (replies x) ∙ e in
      let (r, n, d, w, g) = moved_answer common a.state.owned x (step_of a.state.owned.config x) refl e' in
      let after : (state_after common a.numbers a.state (stepping x)).owned ≡ I' =
      ap (λ (q : Reply). (state_left a.numbers a.state x q).owned) (long_reply a.reached x max_image_length (omega arith) ∙ e') in (
        record {
          numbers = a.numbers;
          state = state_after common a.numbers a.state (stepping x);
          reached = reached_after a.reached (stepping x);
          is = ap image_of (sym after);
          one = (x, rw after (stays_thread d));
        },
        after,
      )

  -- the image after a step of any name
  pub alive_after : (x : ℕ) → Alive (image_after (step_reply common image x max_image_length) image)
  unfolding image_after
  alive_after x = go (step_reply common image x max_image_length) refl
    where
      go : (q : Reply) → step_reply common image x max_image_length ≡ q → Alive (image_after q image)
      go (moved k I') e = (alive_moved x e).0
      go (waits y) e = a
      go finished e = a
      go (refuses n) e = a

  -- the new image says its configuration
  pub moved_reads : (x : ℕ) {k : ℕ} {I' : Owned} → step_reply common image x max_image_length ≡ moved k I' → config_of (image_of I') ≡ I'.config
  moved_reads x e = let (b, c) = alive_moved x e in ap config_of b.is ∙ reached_reads b.reached ∙ ap (λ (I : Owned). I.config) c
