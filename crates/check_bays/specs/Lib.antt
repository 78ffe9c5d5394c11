-- Tests over all bays of a recipe, and what is known when each is asked.

-- cause 5: the nodes of all terms
pub mod Terms
-- causes 6 and 7: one test for all bays
pub mod Tests
-- what the causes already passed give
pub mod Stages
-- none of causes 5 to 8 fits
pub mod Standing
-- causes 9 to 11: the types
pub mod Numbers
