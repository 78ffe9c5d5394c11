-- The editions of the recipe file that are known.
use Rattle.std.specs.Prelude.{false, true, List, [], ◌∷◌, ◌+◌}
use Rattle.recipe_file.specs.declared.Edition.{Edition}

-- document 01, "the edition, 01": ten node forms, five kinds of types, "one type table, then one term for each" bay
abbrev pub edition_1 : Edition
edition_1 = record { number = 1; forms = 10; kinds = 5; starting = false; terms = 1 }

-- T-03, "Edition 2 adds Fig. 10": four node forms and four kinds more
abbrev pub edition_2 : Edition
edition_2 = record { number = 2; forms = 14; kinds = 9; starting = false; terms = 1 }

-- T-07, "Edition 3 is edition 2 with a part between the type table and the terms"
abbrev pub edition_3 : Edition
edition_3 = record { number = 3; forms = edition_2.forms; kinds = edition_2.kinds; starting = true; terms = edition_2.terms + 1 }

-- those that are known, in the order of their numbers
abbrev pub editions : List Edition
editions = edition_1 ∷ edition_2 ∷ edition_3 ∷ []
