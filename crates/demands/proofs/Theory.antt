-- The proofs of the demands; nobody needs to read them in order to believe the statements.

-- the first demand
pub mod First
-- the second demand
pub mod Second
-- the third demand
pub mod Third
-- an image that a run comes to
pub mod Reached
