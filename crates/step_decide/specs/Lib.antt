-- Document 01, "A step": what comes of the place where two values meet.

-- what a decision says
pub mod Decided
-- what each function that decides is asked
pub mod Asked
