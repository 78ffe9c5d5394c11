-- Document 02, T-09: the shares of bays after a step.

-- whether each bay is within its share after a step
pub mod Leaving
-- what each bay owns, and what a step changes of it
pub mod Tallies
