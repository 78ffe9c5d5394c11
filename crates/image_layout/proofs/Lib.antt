-- one head, test by test
pub mod Heads
-- the pass of `heads_stand`, turn by turn
pub mod Pass
pub mod Theory
