-- The verdict on a recipe file.

-- document 01: the bays' terms; causes 5 and 6
pub mod Bays
-- document 01: the lowest number that fits; what is answered
pub mod Verdict
-- what document 01 and the paper ask of a recipe
pub mod Recipe
