-- What is proved of the definitions of specs/.
-- the theorems that tie it to Fig. 5
pub mod Theory
