-- What is proved of the definitions of specs/.
-- their proofs
pub mod Theory
