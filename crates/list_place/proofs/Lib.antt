-- Laws of the terms still to come.

-- a type applied to arguments
pub mod Meeting
-- terms to come put behind others
pub mod Pushing
-- the node of a code, by its tag
pub mod Standing
-- its tests, as the code asks them
pub mod Asking
