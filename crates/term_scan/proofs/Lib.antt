-- What the proofs of the scans use, and what an answer says of the term there.

-- several terms one after the other, counted
pub mod Many
-- from an answer to the term that stands there
pub mod Answers
-- nesting, and what the loop of `nesting_within` knows
pub mod Nesting
-- what every loop with a stack knows
pub mod Going
-- scope of nodes, and of terms; scope as an image asks it
pub mod Scopes
-- what the loop of `scan_scoped` knows
mod Scanning
-- walks that ask each node by its tag and operand, and what their loops know
pub mod Plain
-- the node forms of an edition, and what the loop of `scan_within` knows
pub mod Editions
