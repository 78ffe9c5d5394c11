-- Document 01, "Loading gives names 0 to b − 1 to the settings and b to 2b − 1 to the bays' threads; thread b + k holds bay k's term, byte for byte, and there
-- is no other name." T-07: a setting starts with its bay's starting num. T-08: both belong to their bay.
use Rattle.std.specs.Prelude.{List, ℕ}
use Rattle.calculus.specs.State.{State}
use Rattle.calculus.specs.Recipe.{start}
use Rattle.recipe_file.specs.Starting.{starting_nums}
use Rattle.recipe_table.specs.Entries.{type_table}
use Rattle.check_spec.specs.Bays.{bay_terms}
use Rattle.image.specs.Configuration.{image_of}

-- the calculus's starting state of the recipe that a file says
abbrev pub starting_state : List ℕ → State
starting_state s = start (type_table s) (starting_nums s) (bay_terms s)

-- its image
unfoldable pub starting_image : List ℕ → List ℕ
starting_image s = image_of (starting_state s).owned
