-- What is proved of the runner; nobody needs to read it in order to believe the definitions.

-- looking along names
pub mod Searching
-- what a look says of the answers of steps
pub mod Looks
-- what a look finds in an image that a run comes to
pub mod ReachedLooks
-- the course of a run, turn by turn, along reached states
pub mod Chain
-- when it stops, and what it says then
pub mod Stopping
-- no thread that goes is passed over for long
pub mod Fair
-- the turns are the steps of a run of document 01
pub mod Steps
-- how it ends, and what the buffers hold then
pub mod Ends
-- all that T-04 says
pub mod Whole
