-- The proofs; nobody needs to read them in order to believe the statements.

-- what an image says of owners; 13
pub mod Sixteen
-- each statement
pub mod Ownership
