-- The theorems about the next term.

-- the order is strict and total
pub mod Order
-- a search in order finds the least
pub mod Search
-- the nodes to try are in ascending order
pub mod Ascending
-- no accepted term is lost
pub mod Complete
-- the search is exact: the least that is listed, or none where there is none
pub mod Exact
-- what the search makes is typed: of the test, only cause 10 is left
pub mod Typed
-- listed in a table is accepted as a file
pub mod Files
-- going on from each term given lists all, each once, in ascending order
pub mod All
-- what a call answers
pub mod Answers
-- the request whole
pub mod Whole
-- calls that compute, as rows
pub mod Cases
