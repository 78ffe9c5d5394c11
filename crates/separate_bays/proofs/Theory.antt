-- The proofs; nobody needs to read them in order to believe the statements.

-- the steps of a list of calls on bytes are the calculus's, list for list
pub mod Lists
-- two lists of steps show the same of a bay
pub mod Claim
-- loads, shares and steps
pub mod Sentences
