-- Laws of the count before a step.

-- what is counted of a move that is known
mod Counts
-- no number is too large
mod Bounds
-- both limits
mod Limits
