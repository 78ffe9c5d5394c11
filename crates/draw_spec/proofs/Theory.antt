-- What is proved of the test load; nobody needs to read it in order to believe the definitions.

-- the state stays within 32 bits and is never zero
pub mod States
-- the threads of an image, counted
pub mod Threads
-- an image that draws come to
pub mod Alive
-- a draw is a step of document 01
pub mod Steps
-- the text by the refusal, and how long it is
pub mod Lines
-- the draws one after the other
pub mod Chain
-- all that T-06 says
pub mod Whole
