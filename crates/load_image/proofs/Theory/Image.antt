-- The starting image of an accepted recipe, name by name.
use Rattle.std.proofs.Common.{◌∙◌, sym, arith, length-append}
use Rattle.std.specs.Prelude.{◌≡◌, List, map, ℕ, ◌-◌, ◌<◌, length}
use Rattle.std.proofs.Math.Path.{ap, refl}
use Rattle.std.proofs.Math.Logic.{inl, inr}
use Rattle.std.proofs.Math.Option.{some}
use Rattle.std.proofs.Math.ListN.{length-map}
use Rattle.calculus.specs.Bytes.{Bytes}
use Rattle.calculus.specs.Lists.{tabulate}
use Rattle.calculus.specs.Syntax.{Component, thread_of, at}
use Rattle.calculus.specs.Owners.{owner, first_owners}
use Rattle.calculus.specs.Recipe.{setting_with, loaded}
use Rattle.calculus.proofs.Theory.Lists.{append_cases}
use Rattle.calculus.proofs.Theory.Owners.{setting_owner, thread_owner}
use Rattle.calculus.proofs.Theory.Tests.{ltb_complete, ltb_not}
use Rattle.calculus.proofs.Theory.Tabulate.{length_tabulate, tabulate_at, tabulate_parts}
use Rattle.term.specs.Expressions.{bytes, const_bytes}
use Rattle.recipe_file.specs.File.{bays, term_bytes}
use Rattle.recipe_file.specs.Starting.{starting_num, starting_nums}
use Rattle.check_spec.specs.Bays.{bay_term, bay_terms}
use Rattle.check_spec.specs.Verdict.{refusal}
use Rattle.image_layout.specs.Encoded.{image_bytes}
use Rattle.image.specs.Configuration.{encode, image_of}
use Rattle.image.proofs.Theory.Components.{encode_all_is}
use Rattle.image.proofs.Theory.Maps.{map_at}
use Rattle.load_spec.specs.Starting.{starting_image, starting_state}
use Rattle.load_spec.proofs.Theory.Image.{says}
use Rattle.load_image.specs.Starting.{setting, setting_bytes, bay_thread, starting_at, starting_names}

module _ (s : List ℕ) (b : Bytes s) (accepted : refusal s ≡ 0) where
  -- as many names, of which each has its component and its owner
  starting_length : length (starting_state s).owned.config ≡ starting_names s
  unfolding loaded starting_nums bay_terms
  starting_length = simp (length-append, length-map, length_tabulate)

  -- the settings, then the bays' threads
  setting_is : (k : ℕ) (c : Component) → at (map setting_with (starting_nums s)) k ≡ some c → (k < bays s) × (c ≡ setting_with (starting_num s k))
  unfolding starting_nums
  setting_is k c h = let (n, g, e) = map_at setting_with (starting_nums s) k h in let (l, q) = tabulate_parts (bays s) (starting_num s) k g in (l, e ∙ ap setting_with q)

  thread_is : (i : ℕ) (c : Component) → at (map thread_of (bay_terms s)) i ≡ some c → (i < bays s) × (c ≡ thread_of (bay_term s i))
  unfolding bay_terms
  thread_is i c h = let (e, g, q) = map_at thread_of (bay_terms s) i h in let (l, p) = tabulate_parts (bays s) (bay_term s) i g in (l, q ∙ ap thread_of p)

  bay_bytes : (bay : ℕ) → bay < bays s → term_bytes s bay ≡ bytes (bay_term s bay)
  unfolding bay_terms
  bay_bytes bay l = ((says s b accepted).terms bay (bay_term s bay) (tabulate_at (bays s) (bay_term s) bay l)).0

  length_bays : length (bay_terms s) ≡ bays s
  unfolding bay_terms
  length_bays = length_tabulate (bays s) (bay_term s)

  length_settings : length (map setting_with (starting_nums s)) ≡ bays s
  unfolding starting_nums
  length_settings = simp (length-map, length_tabulate)

  -- each name's component, and that it is its bay's
  each : (k : ℕ) (c : Component) → at (starting_state s).owned.config k ≡ some c → starting_at s k ≡ encode c (owner (starting_state s).owned.owners k)
  unfolding loaded starting_at setting setting_bytes bay_thread encode bytes const_bytes
  each k c h = elim (append_cases (map setting_with (starting_nums s)) (map thread_of (bay_terms s)) k h) [
    | inl p ↦
        let (l, e) = setting_is k c p in
        let o : owner (first_owners (length (bay_terms s))) k ≡ k = setting_owner (length (bay_terms s)) k (omega (arith, length_bays)) in
        rw (ltb_complete k (bays s) l, e, o) refl
    | inr (i, q, p) ↦
        let (l, e) = thread_is i c p in
        let n : k - bays s ≡ i = omega (arith, q, length_settings) in
        let o : owner (first_owners (length (bay_terms s))) k ≡ i = thread_owner (length (bay_terms s)) k (omega (arith, q, length_settings, length_bays)) (omega (arith, q, length_settings, length_bays)) ∙ omega (arith, n, length_bays) in
        rw (ltb_not k (bays s) (omega (arith, q, length_settings)), e, o, n, bay_bytes i l) refl
  ]

  -- name by name
  pub starting_tabulated : starting_image s ≡ image_bytes (tabulate (starting_names s) (starting_at s))
  unfolding starting_image image_of
  starting_tabulated =
      ap image_bytes (sym (encode_all_is (starting_names s) (starting_at s) (starting_state s).owned.config (starting_state s).owned.owners starting_length each))
