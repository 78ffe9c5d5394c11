-- What is proved of a substitution in bytes; nobody needs to read it in order to believe the definitions.

-- the outcome: it is the rules', its length, and that the two variables have no more places than there are nodes
pub mod Outcome
