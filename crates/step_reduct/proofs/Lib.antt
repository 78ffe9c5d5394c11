-- Laws that the functions' proofs cite.

-- what a writer has of the image besides the step
pub mod Redexes
-- the outcome of rules 1, 8 and 9
pub mod Outcomes
