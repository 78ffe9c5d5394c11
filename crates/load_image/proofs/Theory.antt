-- What is proved of the starting image; nobody needs to read it in order to believe the definitions.

-- the bays' parts, one after the other
pub mod Parts
-- the starting image of an accepted recipe
pub mod Image
