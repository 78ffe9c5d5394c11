-- What a load under a profile answers and leaves, by the tests that lead to each answer.
use mathlib.Core.Path.{◌∙◌, ◌≡◌, ap, refl, sym}
use mathlib.Core.List.{List, ◌++◌}
use Prim.Native.Nat.{◌<◌, ◌≤◌, ℕ}
use native.Mathlib.Omega.{arith}
use lib.ListN.{drop, length}
use Rattle.calculus.specs.Limits.{max_image_length}
use Rattle.calculus.specs.Causes.{buffer_cause}
use Rattle.calculus.specs.Lowest.{first_cause}
use Rattle.calculus.specs.Profile.{Profile}
use Rattle.check_spec.specs.declared.Verdict.{Verdict}
use Rattle.check_spec.specs.Verdict.{accepted, refusal, verdict_of}
use Rattle.check_spec.proofs.Theory.Answers.{refusal_is, accepted_is}
use Rattle.buffer.specs.Written.{Wrote}
use Rattle.buffer.proofs.Theory.Writes.{beyond}
use Rattle.load_spec.specs.Starting.{starting_image}
use Rattle.load_spec.specs.declared.Loaded.{Loaded}
use Rattle.load_spec.proofs.Theory.Answers.{checked_first, checked_then, short, long as load_long, loaded_is, not_loaded_is, left_alone, left_loaded}
use Rattle.load_spec.specs.Loading.{is_loaded, loaded_of, load_refusal, not_loaded, out_after_load, profile_causes}

-- the verdict's number is the refusal
pub number_is : (s : List ℕ) (v : Verdict) → v ≡ verdict_of s → v.refusal ≡ refusal s
number_is s v e = ap (λ (x : Verdict). x.refusal) e ∙ refusal_is s

-- the starting image in the first bytes, and what was there beyond
abbrev pub with_image : List ℕ → List ℕ → List ℕ
with_image s out = starting_image s ++ drop (length (starting_image s)) out

-- a starting image that is written, answered with the verdict
pub put : (s out : List ℕ) (v : Verdict) → refusal s ≡ 0 → v ≡ verdict_of s → max_image_length ≤ length out → {out' : List ℕ} {n : ℕ} →
    Wrote out 0 (starting_image s) out' n × (n ≤ max_image_length) →
    (◌≡◌ {A = Loaded} (record { refusal = 0; bays = v.bays; types = v.types; length = n }) (is_loaded s)) × (out' ≡ with_image s out)
put s out v e is long {out'} {n} (w, l) =
    let size : n ≡ length (starting_image s) = omega (arith, w.ends) in
    let fits : length (starting_image s) ≤ length out = omega arith in
    let a : v ≡ accepted s = is ∙ accepted_is s e in
    (rw (a, size) refl, beyond w fits)

-- an answer, and what is left
abbrev pub Leaves : Profile → List ℕ → List ℕ → Loaded → List ℕ → Type 0
Leaves p s out r out' = (r ≡ loaded_of p s (length out)) × (out' ≡ out_after_load p s out)

module _ (p : Profile) (s out : List ℕ) where
  refuses : (number : ℕ) → load_refusal p s (length out) ≡ number → ¬ (number ≡ 0) → Leaves p s out (not_loaded number) out
  refuses number e n =
      let d : ¬ (load_refusal p s (length out) ≡ 0) = λ z. n (sym e ∙ z) in
      (ap not_loaded (sym e) ∙ sym (not_loaded_is p s (length out) d), sym (left_alone p s out d))

  pub too_short : length out < max_image_length → Leaves p s out (not_loaded buffer_cause) out
  too_short l = refuses buffer_cause (short p s (length out) l) (omega arith)

  module _ (long : max_image_length ≤ length out) where
    -- the file's own causes
    pub refuses_recipe : (v : Verdict) → v ≡ verdict_of s → ¬ (v.refusal ≡ 0) → Leaves p s out (not_loaded v.refusal) out
    refuses_recipe v is n =
        let e = number_is s v is in
        refuses v.refusal (load_long p s (length out) long ∙ checked_first p s (λ z. n (e ∙ z)) ∙ sym e) n

    -- of an accepted recipe the profile's decide
    module _ (e : refusal s ≡ 0) where
      decided : load_refusal p s (length out) ≡ first_cause (profile_causes p s)
      decided = load_long p s (length out) long ∙ checked_then p s e

      pub refuses_profile : (number : ℕ) → first_cause (profile_causes p s) ≡ number → ¬ (number ≡ 0) → Leaves p s out (not_loaded number) out
      refuses_profile number is n = refuses number (decided ∙ is) n

      pub loads : first_cause (profile_causes p s) ≡ 0 → {r : Loaded} {out' : List ℕ} → r ≡ is_loaded s → out' ≡ with_image s out → Leaves p s out r out'
      loads is a b =
          let z : load_refusal p s (length out) ≡ 0 = decided ∙ is in
          (a ∙ sym (loaded_is p s (length out) z), b ∙ sym (left_loaded p s out z))
