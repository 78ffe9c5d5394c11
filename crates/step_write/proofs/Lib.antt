-- Laws that the functions' proofs cite.

-- what a step makes of a name, by rule
pub mod Names
-- the component that comes of it
pub mod Components
