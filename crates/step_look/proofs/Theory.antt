-- What follows from a look; nobody needs to read it in order to believe the definitions.

-- the two ways of a look
pub mod Ways
-- the step of a thread that goes can be written
pub mod Writing
-- what a step answers and leaves under a profile
pub mod Answers
