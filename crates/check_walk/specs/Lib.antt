-- Causes 9 and 10 on the bytes of a term.

-- the marks by their numbers
pub mod Marks
-- the walk over a term
pub mod Walk
