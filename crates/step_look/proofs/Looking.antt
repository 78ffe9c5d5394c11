-- What a look at a thread comes to, by what leads to it.
use mathlib.Core.Path.{◌∙◌, ◌≡◌, ap, ap₂, refl, sym}
use mathlib.Core.Bool.{false, false≢true, true}
use mathlib.Core.Option.{some}
use mathlib.Core.List.{List}
use Prim.Native.Nat.{◌<◌, ◌≤◌, ℕ}
use lib.Dec.{eqb}
use Rattle.calculus.specs.Bytes.{Bytes}
use Rattle.calculus.specs.Syntax.{Exp, at, thread_of}
use Rattle.calculus.specs.Step.{done, no_thread, step_of}
use Rattle.calculus.specs.Limits.{max_nodes}
use Rattle.calculus.specs.Image.{limits_test, nodes_all, within_limits}
use Rattle.calculus.specs.Reply.{reply_of}
use Rattle.calculus.specs.Causes.{no_thread_cause, room_cause}
use Rattle.calculus.specs.Kinds.{thread_kind}
use Rattle.calculus.proofs.Theory.Tests.{and_parts, and_true, clash, eqb_complete, eqb_sound, ltb_complete, ltb_not, ltb_sound}
use Rattle.calculus.proofs.Theory.Step.{no_thread_iff}
use Rattle.term.specs.Expressions.{term_at}
use Rattle.term.proofs.Expressions.{found_at}
use Rattle.image_layout.specs.Slice.{kind_at, names, offset_at}
use Rattle.image.specs.Configuration.{config_of, encode}
use Rattle.image.specs.Stands.{image_stands}
use Rattle.step_rules.specs.declared.Step.{Step}
use Rattle.step_rules.specs.Moves.{nodes_after}
use Rattle.step_rules.specs.Stepped.{Stepped}
use Rattle.image.proofs.Theory.Exactly.{kind_is}
use Rattle.step_rules.proofs.Theory.Reading.{rules, thread_stands}
use Rattle.step_decide.proofs.Names.{as_thread, kind_there}
use Rattle.step_decide.specs.declared.Decision.{Decision}
use Rattle.step_decide.specs.declared.Decision.TheVariants.{Goes as DecisionGoes}
use Rattle.step_decide.specs.Decided.{Decided, goes as decided_goes, refuses_used, refuses_wrong, waits}
use Rattle.step_room.specs.declared.Size.{Size}
use Rattle.step_room.specs.Counting.{After}
use Rattle.image_check.proofs.Theory.Names.{config_parts}
use Rattle.step_spec.specs.declared.Outcome.TheVariants.{Done, Refused}
use Rattle.step_spec.specs.Stepping.{outcome_of_reply}
use Rattle.step_look.specs.Looked.{Goes, Staying, is_thread, stays}

-- it stays
module _ (s : List ℕ) (x : ℕ) where
  pub by_no_thread : step_of (config_of s) x ≡ no_thread → Staying s x (Refused no_thread_cause)
  unfolding outcome_of_reply reply_of
  by_no_thread e = record { answered = rw e refl; no_rule = λ rule size q. clash (cc) }

  pub by_done : step_of (config_of s) x ≡ done → Staying s x Done
  unfolding outcome_of_reply reply_of
  by_done e = record { answered = rw e refl; no_rule = λ rule size q. clash (cc) }

  pub by_decision : {d : Decision} → Decided s x d → ((step : Step) → ¬ (d ≡ DecisionGoes step)) → Staying s x (stays d)
  unfolding outcome_of_reply reply_of stays
  by_decision (decided_goes {step = m} S) n = absurd (n m refl)
  by_decision (waits e) n = record { answered = rw e refl; no_rule = λ rule size q. clash (cc) }
  by_decision (refuses_used e) n = record { answered = rw e refl; no_rule = λ rule size q. clash (cc) }
  by_decision (refuses_wrong e) n = record { answered = rw e refl; no_rule = λ rule size q. clash (cc) }

  pub by_no_room : {step : Step} (S : Stepped s x step) → limits_test S.outcome ≡ false → Staying s x (Refused room_cause)
  unfolding outcome_of_reply reply_of limits_test
  by_no_room S l = let e = S.steps in record { answered = rw (e, l) refl; no_rule = λ rule size q. clash (cc) }

-- refusal 14
module _ (s : List ℕ) (b : Bytes s) (stands : image_stands s ≡ true) (x : ℕ) where
  thread_kind_is : {e : Exp} → at (config_of s) x ≡ some (thread_of e) → kind_at s x ≡ thread_kind
  unfolding encode
  thread_kind_is h = kind_is s b stands x h

  pub no_thread_there : is_thread s x ≡ false → step_of (config_of s) x ≡ no_thread
  unfolding is_thread
  no_thread_there f = (no_thread_iff (config_of s) x).1 λ e h.
      let t : (is_thread s x) ≡ true =
      and_true (ltb_complete x (names s) (config_parts s x h).0) (eqb_complete (kind_at s x) thread_kind (thread_kind_is h)) in
      false≢true (sym f ∙ t)

  pub thread_is_there : is_thread s x ≡ true → at (config_of s) x ≡ some (thread_of (term_at s (offset_at s x)))
  unfolding is_thread
  thread_is_there t =
      let (p, q) = and_parts _ _ t in
      let (e, h) = as_thread (kind_there s b stands x (ltb_sound x (names s) p)) (eqb_sound (kind_at s x) thread_kind q) in
      h ∙ ap (λ (g : Exp). some (thread_of g)) (sym (found_at (thread_stands s b stands x e h).term).term)

-- whether a number is a thread, as it is found out
module _ (s : List ℕ) (x : ℕ) where
  pub no_such : names s ≤ x → false ≡ is_thread s x
  unfolding is_thread
  no_such l = rw (ltb_not x (names s) l) refl

  pub by_kind : x < names s → (kind : ℕ) → kind ≡ kind_at s x → eqb kind thread_kind ≡ is_thread s x
  unfolding is_thread
  by_kind l kind e = rw (ltb_complete x (names s) l, e) refl

-- 15 is the calculus's test of the outcome
module _ {s : List ℕ} {x : ℕ} {step : Step} (S : Stepped s x step) {n : ℕ} (n_is : nodes_all (config_of s) ≡ n) {after : Size}
    (counts : After s n step after) where
  nodes_are : after.nodes ≡ nodes_all S.outcome
  nodes_are = counts.nodes ∙ ap (λ (k : ℕ). nodes_after k s step) (sym n_is) ∙ sym S.counted

  pub room_is : within_limits after.names after.nodes ≡ limits_test S.outcome
  unfolding limits_test
  room_is = ap₂ (λ (i j : ℕ). within_limits i j) (counts.handed.names ∙ sym S.named) nodes_are

  pub by_room : limits_test S.outcome ≡ true → Goes s x (record { step = step; after = after })
  by_room l = record { stepped = S; fits = l; handed = counts.handed; counted = nodes_are }

-- an image that stands has few enough nodes to count on
pub few_before : (s : List ℕ) → Bytes s → image_stands s ≡ true → nodes_all (config_of s) ≤ max_nodes
few_before s b stands = (rules s b stands).limits.few_nodes

-- a decision by which a thread goes, and others
pub stepped : {s : List ℕ} {x : ℕ} {step : Step} → Decided s x (DecisionGoes step) → Stepped s x step
stepped (decided_goes S) = S
