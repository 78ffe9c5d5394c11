-- a run on its way
pub mod Underway
-- the whole run
pub mod Whole
