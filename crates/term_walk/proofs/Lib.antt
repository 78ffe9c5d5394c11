-- The law of every walk over a term, and the stack that it keeps.

-- what a walk makes of terms still to come; the law
pub mod Law
-- walks that ask a test of each node
pub mod Asking
-- a stack in an array
pub mod Stack
