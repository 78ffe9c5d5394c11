-- Laws that the functions' proofs cite.

-- the names of a starting image, one by one
pub mod Names
pub mod Theory
