-- Document 01, refusal 15.

-- what is counted of a move's effect
pub mod Counting
