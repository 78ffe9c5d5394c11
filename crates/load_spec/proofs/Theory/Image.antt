-- The starting image of an accepted recipe: its length, and that it keeps the rules of an image.
use Rattle.std.specs.Prelude.{◌≡◌, true, List, ℕ, ◌≤◌, length}
use Rattle.calculus.specs.Bytes.{Bytes}
use Rattle.calculus.specs.Limits.{max_bays, max_image_length}
use Rattle.calculus.proofs.Theory.Claim.{image_loaded}
use Rattle.calculus.proofs.Theory.Images.{Kept, image_fits, kept_more}
use Rattle.recipe_file.specs.FileRule.{FileRule}
use Rattle.recipe_file.specs.Starting.{starting_nums}
use Rattle.recipe_table.specs.Entries.{type_table}
use Rattle.check_spec.specs.Bays.{bay_terms}
use Rattle.check_spec.specs.Verdict.{refusal}
use Rattle.check_spec.specs.Recipe.{Recipe}
use Rattle.check_spec.proofs.Theory.Accepted.{accepted_exactly, table_is, nums_are, terms_are, admitted}
use Rattle.image.specs.Stands.{image_stands}
use Rattle.image.proofs.Theory.Lengths.{length_image_of}
use Rattle.image.proofs.Theory.Exactly.{image_written}
use Rattle.load_spec.specs.Starting.{starting_image, starting_state}

module _ (s : List ℕ) (b : Bytes s) (accepted : refusal s ≡ 0) where
  pub says : Recipe s (type_table s) (starting_nums s) (bay_terms s)
  says = let (T, ns, es, r) = (accepted_exactly s b).0 accepted in rw (table_is r, nums_are r, terms_are r) r

  pub laid : FileRule s
  laid = says.laid

  -- document 01, "The image": what is loaded keeps every rule and limit
  pub starting_kept : Kept max_bays (starting_state s).owned
  starting_kept = kept_more (admitted says).bays (image_loaded (admitted says))

  pub starting_stands : image_stands (starting_image s) ≡ true
  unfolding starting_image
  starting_stands = image_written (starting_state s).owned starting_kept

  -- and fits a buffer that is long enough for any image
  pub starting_fits : length (starting_image s) ≤ max_image_length
  unfolding starting_image
  starting_fits = rw (length_image_of (starting_state s).owned) (image_fits (starting_state s).owned.config starting_kept.keeps.limits)
