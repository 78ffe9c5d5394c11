-- Laws for the checker.

-- causes 5 and 6
pub mod Terms
-- causes 5 to 8, by one pass and by the loops
pub mod Parts
-- the verdict by the answers of the loops
pub mod Verdicts
