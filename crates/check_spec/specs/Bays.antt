-- Document 01, "one term for each of b = n − 1 bays": the bays' terms; causes 5 and 6.
use Rattle.std.specs.Prelude.{Bool, ◌||◌, not, List, [], ◌∷◌, ℕ, leb, ltb}
use Rattle.calculus.specs.Causes.{no_term_cause, term_size_cause}
use Rattle.calculus.specs.Lowest.{Cause, cause}
use Rattle.calculus.specs.Lists.{tabulate, each_below, sum_below}
use Rattle.calculus.specs.Syntax.{Exp}
use Rattle.calculus.specs.Limits.{max_nesting, max_recipe_nodes}
use Rattle.calculus.specs.Image.{nodes}
use Rattle.term.specs.Reader.{Got, of_edition, one_term, read_term}
use Rattle.term.specs.Expressions.{nesting, term_of}
use Rattle.recipe_file.specs.File.{bays, edition_of, term_bytes}

-- the expression that a bay's part says
unfoldable pub bay_term : List ℕ → ℕ → Exp
bay_term s bay = term_of (term_bytes s bay)

-- the terms of all bays
unfoldable pub bay_terms : List ℕ → List Exp
bay_terms s = tabulate (bays s) (bay_term s)

-- what is read of a bay's part, with the node forms of the edition
abbrev pub bay_reading : List ℕ → ℕ → Got
bay_reading s bay = of_edition (edition_of s).forms (read_term (term_bytes s bay))

-- document 01, cause 5: "a part is not exactly one term"
unfoldable pub cause_5 : List ℕ → Bool
cause_5 s = not (each_below (bays s) (λ bay. one_term (bay_reading s bay)))

-- document 01, cause 6: "nesting or nodes above the limit", "1,024 nodes over all terms"
unfoldable pub cause_6 : List ℕ → Bool
cause_6 s =
    not (each_below (bays s) (λ bay. leb (nesting (bay_term s bay)) max_nesting))
    || ltb max_recipe_nodes (sum_below (bays s) (λ bay. nodes (bay_term s bay)))

-- causes 5 and 6 with their numbers
abbrev pub term_causes : List ℕ → List Cause
term_causes s = cause no_term_cause (cause_5 s) ∷ cause term_size_cause (cause_6 s) ∷ []
