-- Laws of the walks that count and replace two variables.

-- a variable at a node
pub mod Nodes
-- counting the places
pub mod Counting
-- the bytes of a node and of a term
pub mod Copies
-- writing the outcome
pub mod Putting
pub mod Theory
