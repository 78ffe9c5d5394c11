-- An awaited name is a name of the image, and so has a small number.
use Rattle.std.specs.Prelude.{◌≡◌, refl, Bool, cond, false, true, List, ◌<◌, ◌≤◌, ℕ, ltb, length}
use Rattle.std.proofs.Common.{arith}
use Rattle.calculus.specs.Syntax.{Config}
use Rattle.calculus.specs.Owners.{Owned, grown}
use Rattle.calculus.specs.Reduction.{number}
use Rattle.calculus.specs.Step.{Answer, rule, waiting, done, no_thread, used_handle, wrong_kind, step_of, Unready, not_done, not_bound}
use Rattle.calculus.specs.Limits.{max_image_length, max_names}
use Rattle.calculus.specs.Image.{image_test}
use Rattle.calculus.specs.Profile.{Profile, room_test}
use Rattle.calculus.specs.Reply.{Reply, moved, waits, finished, refuses, reply_of, reply_to}
use Rattle.calculus.proofs.Theory.Tests.{and_parts, clash}
use Rattle.calculus.proofs.Theory.Lists.{at_bound}
use Rattle.calculus.proofs.Theory.Step.{waiting_iff}
use Rattle.calculus.proofs.Theory.ImageTest.{image_test_iff}
use Rattle.calculus.specs.Causes.{buffer_cause, image_cause, room_cause}
use Rattle.image_layout.specs.Layout.{heads_stand}
use Rattle.image.specs.Configuration.{config_of, owned_of}
use Rattle.image.specs.Stands.{image_stands, terms_stand}
use Rattle.step_spec.specs.declared.Outcome.TheVariants.{Waiting}
use Rattle.step_spec.specs.Waiting.{NameSmall}
use Rattle.step_spec.specs.Stepping.{outcome_of_reply, outcome_of, step_reply}

unready_below : (C : Config) (y : ℕ) → Unready C y → y < length C
unready_below C y (not_done e v h) = at_bound C y h
unready_below C y (not_bound h) = at_bound C y h

few_names : (s : List ℕ) → image_stands s ≡ true → length (config_of s) ≤ max_names
unfolding image_stands
few_names s t =
    let (h, r) = and_parts (heads_stand s) _ t in
    let (e, i) = and_parts (terms_stand s) (image_test (config_of s)) r in
    ((image_test_iff (config_of s)).0 i).limits.few_names

waits_for : (q : Reply) {y : ℕ} → outcome_of_reply q ≡ Waiting y → q ≡ waits y
unfolding outcome_of_reply
waits_for (moved r I') e = absurd (clash (cc))
waits_for (waits y) e = cc
waits_for finished e = absurd (clash (cc))
waits_for (refuses n) e = absurd (clash (cc))

replies_waiting : (room : Owned → Bool) (left : Config → Owned) (a : Answer) {y : ℕ} → reply_of room left a ≡ waits y → a ≡ waiting y
unfolding reply_of
replies_waiting room left (rule r C) {y} e = absurd (go (room (left C)) (moved (number r) (left C)) (λ p. clash (cc)) e)
  where
    go : (t : Bool) (q : Reply) → ¬ (q ≡ waits y) → cond t q (refuses room_cause) ≡ waits y → ⊥
    go true q n e = n e
    go false q n e = clash (cc)
replies_waiting room left (waiting z) e = cc
replies_waiting room left done e = absurd (clash (cc))
replies_waiting room left no_thread e = absurd (clash (cc))
replies_waiting room left used_handle e = absurd (clash (cc))
replies_waiting room left wrong_kind e = absurd (clash (cc))

pub waiting_small : (p : Profile) (s : List ℕ) (x : ℕ) (out : List ℕ) → NameSmall (outcome_of p s x out)
unfolding outcome_of step_reply
waiting_small p s x out = record { small = λ y e. go (ltb (length out) max_image_length) (image_stands s) refl (waits_for (step_reply p s x (length out)) e) }
  where
    go : {y : ℕ} (b t : Bool) → image_stands s ≡ t → cond b (refuses buffer_cause) (cond t (reply_to p (owned_of s) x) (refuses image_cause)) ≡ waits y → y < max_names
    go true t q e = absurd (clash (cc))
    go false false q e = absurd (clash (cc))
    go {y} false true q e =
        let w = (waiting_iff (config_of s) x y).0 (replies_waiting (room_test p (owned_of s)) (grown (owned_of s) x) (step_of (config_of s) x) e) in
        omega (arith, unready_below (config_of s) y w.1, few_names s q)
