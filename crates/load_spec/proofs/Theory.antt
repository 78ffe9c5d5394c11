-- What is proved of a load; nobody needs to read it in order to believe the definitions.

-- the starting image of an accepted recipe keeps the rules of an image
pub mod Image
-- what is answered and left, from the first cause that fits
pub mod Answers
-- T-09: what 20 and 21 ask of the recipe that a file says
pub mod Suited
-- what a load into a buffer that is long enough says
pub mod Told
