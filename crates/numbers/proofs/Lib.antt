-- Laws of the numbers.

-- a cause's number, and the number that an answer says
pub mod Refusals
