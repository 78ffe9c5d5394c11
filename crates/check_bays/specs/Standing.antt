-- None of document 01's causes 5 to 8 fits, over all bays.
use Rattle.std.specs.Prelude.{Bool, ◌&&◌, false, true, List, ℕ, leb, Option, None, Some}
use Rattle.calculus.specs.Lists.{each_below, sum_below}
use Rattle.calculus.specs.Limits.{max_recipe_nodes}
use Rattle.calculus.specs.Verdict.{annotated}
use Rattle.recipe_file.specs.File.{bays, edition_of, term_bytes}
use Rattle.recipe_table.specs.Entries.{type_table}
use Rattle.check_prescan.specs.Stands.{glance}
use Rattle.check_spec.specs.Bays.{bay_term}
use Rattle.check_bays.specs.Terms.{bay_nodes}

-- cause 8 does not fit a bay's term
unfoldable pub bay_annotated : List ℕ → ℕ → Bool
bay_annotated s bay = annotated (type_table s) (bay_term s bay)

-- a part is a term
abbrev pub is_term : Option ℕ → Bool
is_term None = false
is_term (Some n) = true

-- none of causes 5 to 8 fits a bay's part, the nodes of the others apart
unfoldable pub bay_stands : List ℕ → ℕ → Bool
bay_stands s bay = is_term (glance (edition_of s).forms (type_table s) (bays s) (term_bytes s bay))

-- none of causes 5 to 8 fits the file
unfoldable pub all_stand : List ℕ → Bool
all_stand s = each_below (bays s) (bay_stands s) && leb (sum_below (bays s) (bay_nodes s)) max_recipe_nodes
