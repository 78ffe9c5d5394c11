-- Document 01, loading: "try 12 first", then the verdict; "loading also the image's length"; "After a load .. the out buffer holds the image in its first bytes and is
-- unchanged beyond".
use Rattle.std.specs.Prelude.{Bool, cond, not, List, [], ◌++◌, ◌∷◌, ℕ, eqb, ltb, drop, length, replicate}
use Rattle.calculus.specs.Limits.{max_bays, max_image_length}
use Rattle.calculus.specs.Causes.{buffer_cause, other_setting_cause, share_cause}
use Rattle.calculus.specs.Profile.{Profile, common, separate, own_settings_test}
use Rattle.calculus.specs.Shares.{shares_test}
use Rattle.calculus.specs.Lowest.{Cause, cause, first_cause}
use Rattle.recipe_file.specs.File.{bays}
use Rattle.check_spec.specs.Bays.{bay_terms}
use Rattle.check_spec.specs.Verdict.{bay_type_numbers, check_causes}
use Rattle.load_spec.specs.Starting.{starting_image, starting_state}
use Rattle.load_spec.specs.declared.Loaded.{Loaded}

-- a refusal has its number and nothing else
abbrev pub not_loaded : ℕ → Loaded
not_loaded number = record { refusal = number; bays = 0; types = replicate max_bays 0; length = 0 }

abbrev pub is_loaded : List ℕ → Loaded
is_loaded s = record { refusal = 0; bays = bays s; types = bay_type_numbers s; length = length (starting_image s) }

-- T-09, cause 20: "a bay that names another's setting"; cause 21: "a bay that starts above its share"
unfoldable pub cause_20 : List ℕ → Bool
cause_20 s = not (own_settings_test 0 (bay_terms s))

unfoldable pub cause_21 : List ℕ → Bool
cause_21 s = not (shares_test (bays s) (starting_state s).owned)

-- what a profile refuses beyond the file's own causes: "20 and then .. 21, both after 19"
abbrev pub profile_causes : Profile → List ℕ → List Cause
profile_causes common s = []
profile_causes separate s = cause other_setting_cause (cause_20 s) ∷ cause share_cause (cause_21 s) ∷ []

-- the causes of a load under a profile, in the order in which they are tried; `room` is the length of the out buffer
abbrev pub load_causes : Profile → List ℕ → ℕ → List Cause
load_causes p s room = cause buffer_cause (ltb room max_image_length) ∷ (check_causes s ++ profile_causes p s)

-- the number of the first that fits, 0 where none does
unfoldable pub load_refusal : Profile → List ℕ → ℕ → ℕ
load_refusal p s room = first_cause (load_causes p s room)

-- what a load answers
unfoldable pub loaded_of : Profile → List ℕ → ℕ → Loaded
loaded_of p s room = cond (eqb (load_refusal p s room) 0) (is_loaded s) (not_loaded (load_refusal p s room))

-- what it leaves in the out buffer
unfoldable pub out_after_load : Profile → List ℕ → List ℕ → List ℕ
out_after_load p s out = cond (eqb (load_refusal p s (length out)) 0) (starting_image s ++ drop (length (starting_image s)) out) out
