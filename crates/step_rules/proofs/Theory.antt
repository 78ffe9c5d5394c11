-- What is proved of the rules in bytes; nobody needs to read it in order to believe the definitions.

-- the components of an image that stands, and where their expressions are
pub mod Reading
-- a configuration changed, as a table of components in bytes; its nodes
pub mod Changes
-- the meeting in bytes: the two values, the thread's expression and the components after a step
pub mod Meeting
-- what a writer needs
pub mod Writers
-- T-09: how a step changes the nodes of each bay
pub mod Carrying
-- how long what a step writes is
pub mod Lengths
-- what rules 1, 8 and 9 put in a body
pub mod Substitutions
-- the nine rules
pub mod Rules
-- what a search has found
pub mod Found
-- cases, computed
pub mod Cases
-- that the places of a step are inside the image has one proof at most
pub mod Once
