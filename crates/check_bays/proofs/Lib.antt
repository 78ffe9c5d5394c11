-- Laws for the loops over bays.

-- a test of all below a number, by a loop
pub mod Each
-- what the causes already passed give of a bay
pub mod Known
-- cause 5: nodes added up
pub mod Counting
-- the tests of one bay
pub mod Answers
-- the types added one by one
pub mod Typing
-- one pass for causes 5 to 8
pub mod Standing
