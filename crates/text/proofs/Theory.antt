-- What is proved of numbers and the line; nobody needs to read it in order to believe the definitions.

-- numbers by their digits, read back; lengths
pub mod Digits
-- a text put into a lent buffer
pub mod Put
