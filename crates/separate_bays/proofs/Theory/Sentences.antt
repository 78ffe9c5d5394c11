-- Loads, shares and steps of the second profile, sentence by sentence.
use Rattle.std.proofs.Common.{◌∙◌, sym, arith}
use Rattle.std.specs.Prelude.{◌≡◌, refl, ◌↔◌, ◌⊎◌, Bool, ◌&&◌, cond, false, not, true, List, [], ◌∷◌, ◌<◌, ◌≤◌, suc, zero, ℕ, ltb}
use Rattle.std.proofs.Math.Path.{ap}
use Rattle.std.proofs.Math.Logic.{inl, inr}
use Rattle.std.proofs.Math.Decide.{dec_lt}
use Rattle.std.proofs.Math.Nat.{lt-mul-div-succ, mul-div-le}
use Rattle.std.proofs.Math.ListN.{length}
use Rattle.calculus.specs.Bytes.{Bytes}
use Rattle.calculus.specs.Causes.{buffer_cause, image_cause, other_setting_cause, room_cause, share_cause, starting_cause}
use Rattle.calculus.specs.Image.{limits_test}
use Rattle.calculus.specs.Limits.{max_image_length, max_names, max_nodes}
use Rattle.calculus.specs.Lists.{each_below}
use Rattle.calculus.specs.Lowest.{first_cause}
use Rattle.calculus.specs.Names.{count}
use Rattle.calculus.specs.Owners.{Owned, Owners, owner, grown}
use Rattle.calculus.specs.Profile.{common, separate, OwnSettings, own_settings_test, room_test}
use Rattle.calculus.specs.Reduction.{Rule as RuleName, number, Reduces}
use Rattle.calculus.specs.Reply.{Reply, moved, refuses, reply_of, reply_to}
use Rattle.calculus.specs.Shares.{bays_in, Share, share_test, shares_test, WithinShares}
use Rattle.calculus.specs.Step.{Answer, rule, waiting, done, no_thread, used_handle, wrong_kind, step_of}
use Rattle.calculus.specs.Syntax.{Config}
use Rattle.calculus.proofs.Theory.Lists.{at_below, get_d_at}
use Rattle.calculus.proofs.Theory.Shares.{own_settings_iff, room_iff, share_test_iff, shares_test_iff}
use Rattle.calculus.proofs.Theory.Step.{rule_iff}
use Rattle.calculus.proofs.Theory.Tabulate.{tabulate_at}
use Rattle.calculus.proofs.Theory.Tests.{clash, and_false}
use Rattle.recipe_file.specs.File.{bays}
use Rattle.check_spec.specs.Bays.{bay_term, bay_terms}
use Rattle.check_spec.specs.Verdict.{refusal, verdict_of}
use Rattle.check_spec.proofs.Theory.Answers.{refusal_is, refusal_small}
use Rattle.image.specs.Configuration.{image_of, owned_of}
use Rattle.image.specs.Stands.{image_stands}
use Rattle.load_spec.specs.Starting.{starting_state}
use Rattle.load_spec.specs.Loading.{cause_20, cause_21, load_refusal, loaded_of, not_loaded, out_after_load, profile_causes}
use Rattle.load_spec.proofs.Theory.Answers as load
use Rattle.step_spec.specs.declared.Outcome.TheVariants.{Rule, Refused}
use Rattle.step_spec.specs.Stepping.{step_reply, outcome_of, outcome_of_reply, out_after_reply, out_after_step}
use Rattle.step_spec.proofs.Theory.Exactly.{step_is}
use Rattle.demands.specs.Demands.{ImageOf}
use Rattle.demands.proofs.Theory.First.{first_demand}
use Rattle.demands.proofs.Theory.Second.{kept_image, second_demand}
use Rattle.demands.proofs.Theory.Third.{loaded_accepted, loaded_common, third_demand}
use Rattle.bays_apart.proofs.Theory.Shares.{owner_below, room_shares}
use Rattle.separate_bays.specs.SeparateBays.{LoaderDemand, SharesDemand, SeparateBays}
use Rattle.separate_bays.proofs.Theory.Claim.{claim, out_of_reach, stays_apart}

-- ---- the loader

module _ (file out : List ℕ) where
  -- the number that a load answers, and the first cause
  told : (n : ℕ) → (loaded_of separate file (length out)).refusal ≡ n → load_refusal separate file (length out) ≡ n
  told n e = sym (load.load_refusal_is separate file (length out)) ∙ e

  loads_alike : (loaded_of separate file (length out)).refusal ≡ 0 →
      (loaded_of separate file (length out) ≡ loaded_of common file (length out)) × (out_after_load separate file out ≡ out_after_load common file out)
  loads_alike v =
      let e = told 0 v in
      let (a, l) = loaded_accepted separate file out e in
      let c = loaded_common file out a l in (
        load.loaded_is separate file (length out) e ∙ sym (load.loaded_is common file (length out) c),
        load.left_loaded separate file out e ∙ sym (load.left_loaded common file out c),
      )

  -- what the first refuses
  number_alike : ¬ (load_refusal common file (length out) ≡ 0) → load_refusal separate file (length out) ≡ load_refusal common file (length out)
  number_alike n = elim (dec_lt (length out) max_image_length) [
    | yes l ↦ load.short separate file (length out) l ∙ sym (load.short common file (length out) l)
    | no l ↦
        let c = load.long_common file (length out) (omega arith) in
        load.long separate file (length out) (omega arith) ∙ load.checked_first separate file (λ e. n (c ∙ e)) ∙ sym c
  ]

  refuses_alike : ¬ ((loaded_of common file (length out)).refusal ≡ 0) → loaded_of separate file (length out) ≡ loaded_of common file (length out)
  refuses_alike f =
      let n : ¬ (load_refusal common file (length out) ≡ 0) = λ e. f (load.load_refusal_is common file (length out) ∙ e) in
      let q = number_alike n in
      load.not_loaded_is separate file (length out) (λ e. n (sym q ∙ e)) ∙ ap not_loaded q ∙ sym (load.not_loaded_is common file (length out) n)

  -- none of the profile's causes fits
  none_fits : (loaded_of separate file (length out)).refusal ≡ 0 → first_cause (profile_causes separate file) ≡ 0
  none_fits v =
      let e = told 0 v in
      (load.profile_parts separate file (sym (load.long separate file (length out) (loaded_accepted separate file out e).1) ∙ e)).1

-- what 20 and 21 say of the tests that they are
first_of_two : (a : Bool) (m n : ℕ) → ¬ (m ≡ 0) → cond a m n ≡ 0 → a ≡ false
first_of_two true m n z e = absurd (z e)
first_of_two false m n z e = refl

only_first : (a b : Bool) {m n : ℕ} → ¬ (n ≡ m) → ¬ (m ≡ 0) → (cond a m (cond b n 0) ≡ m) ↔ (a ≡ true)
only_first true b f z = (λ e. refl, λ e. refl)
only_first false true f z = (λ e. absurd (f e), λ e. absurd (clash (cc)))
only_first false false f z = (λ e. absurd (z (sym e)), λ e. absurd (clash (cc)))

only_second : (a b : Bool) {m n : ℕ} → ¬ (m ≡ n) → ¬ (n ≡ 0) → (cond a m (cond b n 0) ≡ n) ↔ ((a ≡ false) × (b ≡ true))
only_second true b f z = (λ e. absurd (f e), λ (p, q). absurd (clash (cc)))
only_second false true f z = (λ e. (refl, refl), λ e. refl)
only_second false false f z = (λ e. absurd (z (sym e)), λ (p, q). absurd (clash (cc)))

fails : (t : Bool) {P : Type 0} → (t ≡ true) ↔ P → (not t ≡ true) ↔ (¬ P)
fails true (there, back) = (λ e. absurd (clash (cc)), λ n. absurd (n (there refl)))
fails false (there, back) = (λ e p. clash (let q = back p in cc), λ n. refl)

passes : (t : Bool) {P : Type 0} → (t ≡ true) ↔ P → (not t ≡ false) ↔ P
passes true (there, back) = (λ e. there refl, λ p. refl)
passes false (there, back) = (λ e. absurd (clash (cc)), λ p. absurd (clash (let q = back p in cc)))

module _ (file : List ℕ) where
  names_another : (cause_20 file ≡ true) ↔ (¬ OwnSettings (bay_terms file))
  unfolding cause_20
  names_another = fails (own_settings_test 0 (bay_terms file)) (own_settings_iff (bay_terms file))

  names_own : (cause_20 file ≡ false) ↔ OwnSettings (bay_terms file)
  unfolding cause_20
  names_own = passes (own_settings_test 0 (bay_terms file)) (own_settings_iff (bay_terms file))

  starts_above : (cause_21 file ≡ true) ↔ (¬ WithinShares (bays file) (starting_state file).owned)
  unfolding cause_21
  starts_above = fails (shares_test (bays file) (starting_state file).owned) (shares_test_iff (bays file) (starting_state file).owned)

own_settings : (file out : List ℕ) → (loaded_of separate file (length out)).refusal ≡ 0 → (bay : ℕ) → bay < bays file → (k : ℕ) → ¬ (k ≡ bay) → count k (bay_term file bay) ≡ 0
unfolding bay_terms
own_settings file out v bay l k n =
    let c = first_of_two (cause_20 file) other_setting_cause (cond (cause_21 file) share_cause 0) (λ e. omega (arith, e)) (none_fits file out v) in
    (names_own file).0 c bay (bay_term file bay) (tabulate_at (bays file) (bay_term file) bay l) k n

-- a number above 19 is the profile's: the buffer is long enough, and a check accepts
module _ (file out : List ℕ) (n : ℕ) (above : starting_cause < n) where
  profiles : ((loaded_of separate file (length out)).refusal ≡ n) ↔ ((max_image_length ≤ length out) × ((verdict_of file).refusal ≡ 0) × (first_cause (profile_causes separate file) ≡ n))
  profiles = (there, λ (l, v, e). load.load_refusal_is separate file (length out) ∙ load.long separate file (length out) l ∙ load.checked_then separate file (sym (refusal_is file) ∙ v) ∙ e)
    where
      accepted : max_image_length ≤ length out → load_refusal separate file (length out) ≡ n → (r : ℕ) → refusal file ≡ r → refusal file ≡ 0
      accepted l e zero q = q
      accepted l e (suc r) q =
          let f = load.checked_first separate file (λ z. omega (arith, z, q)) in
          absurd (omega (arith, refusal_small file, sym f ∙ sym (load.long separate file (length out) l) ∙ e))

      there : (loaded_of separate file (length out)).refusal ≡ n → (max_image_length ≤ length out) × ((verdict_of file).refusal ≡ 0) × (first_cause (profile_causes separate file) ≡ n)
      there v = elim (dec_lt (length out) max_image_length) [
        | yes l ↦ absurd (omega (arith, load.short separate file (length out) l, told file out n v))
        | no l ↦
            let e = told file out n v in
            let a = accepted (omega arith) e (refusal file) refl in
            (omega arith, refusal_is file ∙ a, sym (load.checked_then separate file a) ∙ sym (load.long separate file (length out) (omega arith)) ∙ e)
      ]

twenty : (file out : List ℕ) → ((loaded_of separate file (length out)).refusal ≡ other_setting_cause) ↔
    ((max_image_length ≤ length out) × ((verdict_of file).refusal ≡ 0) × ¬ OwnSettings (bay_terms file))
twenty file out =
    let (there, back) = profiles file out other_setting_cause (omega arith) in
    let (only, is) = only_first (cause_20 file) (cause_21 file) {m = other_setting_cause} {n = share_cause} (λ e. omega (arith, e)) (λ e. omega (arith, e)) in (
      λ v. let (l, a, e) = there v in (l, a, (names_another file).0 (only e)),
      λ (l, a, n). back (l, a, is ((names_another file).1 n)),
    )

twenty_one : (file out : List ℕ) → ((loaded_of separate file (length out)).refusal ≡ share_cause) ↔
    ((max_image_length ≤ length out) × ((verdict_of file).refusal ≡ 0) × OwnSettings (bay_terms file) × ¬ WithinShares (bays file) (starting_state file).owned)
twenty_one file out =
    let (there, back) = profiles file out share_cause (omega arith) in
    let (only, is) = only_second (cause_20 file) (cause_21 file) {m = other_setting_cause} {n = share_cause} (λ e. omega (arith, e)) (λ e. omega (arith, e)) in (
      λ v. let (l, a, e) = there v in let (p, q) = only e in (l, a, (names_own file).0 p, (starts_above file).0 q),
      λ (l, a, o, n). back (l, a, is ((names_own file).1 o, (starts_above file).1 n)),
    )

loader : LoaderDemand
loader = record {
  loads_alike = loads_alike;
  refuses_alike = refuses_alike;
  own_settings = own_settings;
  twenty = twenty;
  twenty_one = twenty_one;
}

-- ---- shares

-- a test that not all pass fails somewhere
somewhere : (n : ℕ) (test : ℕ → Bool) → each_below n test ≡ false → (k : ℕ) × (k < n) × (test k ≡ false)
unfolding each_below
somewhere zero test e = absurd (clash (cc))
somewhere (suc n) test e = elim (and_false (each_below n test) (test n) e) [
  | inl p ↦ let (k, l, q) = somewhere n test p in (k, omega arith, q)
  | inr q ↦ (n, omega arith, q)
]

-- where some bay is above its share
above_somewhere : (b : ℕ) (I : Owned) → (¬ WithinShares b I) ↔ ((k : ℕ) × (k < b) × ¬ Share b I k)
unfolding shares_test
above_somewhere b I = (λ n. go (shares_test b I) refl n, λ (k, l, n) w. n (w k l))
  where
    go : (t : Bool) → shares_test b I ≡ t → ¬ WithinShares b I → (k : ℕ) × (k < b) × ¬ Share b I k
    go true e n = absurd (n ((shares_test_iff b I).0 e))
    go false e n = let (k, l, q) = somewhere b (share_test b I) e in (k, l, λ s. clash (let p = (share_test_iff b I k).1 s in cc))

highest : (O : Owners) → ¬ (length O ≡ 0) → (x : ℕ) × (x < length O) × (suc (owner O x) ≡ bays_in O)
unfolding bays_in
highest [] n = absurd (n refl)
highest (o ∷ []) n = (0, omega arith, omega arith)
highest (o ∷ (p ∷ O)) n =
    let (x, l, e) = highest (p ∷ O) (λ z. omega (arith, z)) in
    elim (dec_lt o (bays_in (p ∷ O))) [
      | yes m ↦ (suc x, omega arith, omega (arith, e))
      | no m ↦ (0, omega arith, omega (arith, e))
    ]

owners_below : (O : Owners) (x : ℕ) → x < length O → owner O x < bays_in O
owners_below O x l = let (k, h) = at_below O x l in rw (get_d_at O x h) (owner_below O x h)

-- 15 exactly where a rule goes and some bay is above its share then
fifteen : (s : List ℕ) (I : Owned) → Bytes s → ImageOf s I → (x : ℕ) (by : RuleName) (C' : Config) → Reduces I.config x by C' → (out : List ℕ) → max_image_length ≤ length out →
    (outcome_of separate s x out ≡ Refused room_cause) ↔ ((k : ℕ) × (k < bays_in I.owners) × ¬ Share (bays_in I.owners) (grown I x C') k)
unfolding outcome_of outcome_of_reply reply_of
fifteen s I b io x by C' d out long = (λ e. above.0 ((go (room_test separate I (grown I x C')) refl).0 (sym answered ∙ e)), λ k. answered ∙ (go (room_test separate I (grown I x C')) refl).1 (above.1 k))
  where
    above : (¬ WithinShares (bays_in I.owners) (grown I x C')) ↔ ((k : ℕ) × (k < bays_in I.owners) × ¬ Share (bays_in I.owners) (grown I x C') k)
    above = above_somewhere (bays_in I.owners) (grown I x C')

    room : room_test separate I (grown I x C') ≡ true → WithinShares (bays_in I.owners) (grown I x C')
    room t = ((room_iff separate I (grown I x C')).0 t).1

    answered : outcome_of separate s x out ≡ outcome_of_reply (cond (room_test separate I (grown I x C')) (moved (number by) (grown I x C')) (refuses room_cause))
    answered =
        ap (λ (i : List ℕ). outcome_of_reply (step_reply separate i x (length out))) io.bytes
        ∙ ap outcome_of_reply (step_is separate I (kept_image io) x (length out) long)
        ∙ rw ((rule_iff I.config C' x by).1 d) refl

    go : (t : Bool) → room_test separate I (grown I x C') ≡ t → (outcome_of_reply (cond t (moved (number by) (grown I x C')) (refuses room_cause)) ≡ Refused room_cause) ↔ (¬ WithinShares (bays_in I.owners) (grown I x C'))
    go true q = (λ e. absurd (clash (cc)), λ n. absurd (n (room q)))
    go false q = (λ e w. clash (let p = (room_iff separate I (grown I x C')).1 ((room_shares I io.owners.sizes d).1 w) in cc), λ n. refl)

shares : SharesDemand
shares = record {
  names_rounded = λ b l. (mul-div-le max_names b, lt-mul-div-succ max_names l);
  nodes_rounded = λ b l. (mul-div-le max_nodes b, lt-mul-div-succ max_nodes l);
  highest_owner = λ O n. (owners_below O, highest O n);
  fifteen = fifteen;
}

-- ---- the stepper

-- the second stepper's reply: the first's, or 15 where that goes or lacks room
data Beside (first : Reply) : Reply → Type 0 where
  alike : Beside first first
  instead : {k : ℕ} {I' : Owned} → first ≡ moved k I' → Beside first (refuses room_cause)

beside : (I : Owned) (left : Config → Owned) (a : Answer) → Beside (reply_of (room_test common I) left a) (reply_of (room_test separate I) left a)
unfolding reply_of
beside I left (rule r C') = go (limits_test (left C').config) (shares_test (bays_in I.owners) (left C'))
  where
    go : (l s : Bool) → Beside (cond l (moved (number r) (left C')) (refuses room_cause)) (cond (l && s) (moved (number r) (left C')) (refuses room_cause))
    go true true = alike
    go true false = instead refl
    go false s = alike
beside I left (waiting y) = alike
beside I left done = alike
beside I left no_thread = alike
beside I left used_handle = alike
beside I left wrong_kind = alike

replies_beside : (s : List ℕ) (x room : ℕ) → Beside (step_reply common s x room) (step_reply separate s x room)
unfolding step_reply
replies_beside s x room = go (ltb room max_image_length) (image_stands s)
  where
    go : (b t : Bool) → Beside (cond b (refuses buffer_cause) (cond t (reply_to common (owned_of s) x) (refuses image_cause))) (cond b (refuses buffer_cause) (cond t (reply_to separate (owned_of s) x) (refuses image_cause)))
    go true t = alike
    go false true = beside (owned_of s) (grown (owned_of s) x) (step_of (owned_of s).config x)
    go false false = alike

module _ (s : List ℕ) (x : ℕ) (out : List ℕ) where
  steps_alike : ¬ (outcome_of separate s x out ≡ Refused room_cause) →
      (outcome_of separate s x out ≡ outcome_of common s x out) × (out_after_step separate s x out ≡ out_after_step common s x out)
  unfolding outcome_of out_after_step outcome_of_reply
  steps_alike n = go (replies_beside s x (length out)) n
    where
      go : {q r : Reply} → Beside q r → ¬ (outcome_of_reply r ≡ Refused room_cause) → (outcome_of_reply r ≡ outcome_of_reply q) × (out_after_reply r out ≡ out_after_reply q out)
      go alike n = (refl, refl)
      go (instead e) n = absurd (n refl)

  goes_instead : outcome_of separate s x out ≡ Refused room_cause → (outcome_of common s x out ≡ Refused room_cause) ⊎ ((rule size : ℕ) × (outcome_of common s x out ≡ Rule rule size))
  unfolding outcome_of outcome_of_reply
  goes_instead e = go (replies_beside s x (length out)) e
    where
      go : {q r : Reply} → Beside q r → outcome_of_reply r ≡ Refused room_cause → (outcome_of_reply q ≡ Refused room_cause) ⊎ ((rule size : ℕ) × (outcome_of_reply q ≡ Rule rule size))
      go alike e = inl e
      go (instead {k} {I'} h) e = inr (k, length (image_of I'), ap outcome_of_reply h)

-- ---- the whole

pub separate_bays : SeparateBays
separate_bays = record {
  loader = loader;
  shares = shares;
  stepper = record { steps_alike = steps_alike; instead = goes_instead };
  claim = claim;
  out_of_reach = λ file out b v calls i n h. out_of_reach file out b v calls i n h;
  kept_apart = λ file out b v calls i n h. stays_apart file out b v calls i n h;
  first = first_demand separate;
  second = second_demand separate;
  third = third_demand separate;
}
