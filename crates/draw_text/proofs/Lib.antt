-- one draw more
pub mod Onward
-- the draws on their way
pub mod Underway
-- the whole test load
pub mod Whole
