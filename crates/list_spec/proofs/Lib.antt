-- What is proved of the definitions of specs/.
-- the theorems
pub mod Theory
