-- The numbers that the code has by name.

-- as lists of those of the definitions
pub mod Tables
-- a cause's number, and the number that an answer says
pub mod Refusals
