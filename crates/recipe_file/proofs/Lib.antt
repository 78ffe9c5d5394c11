-- what every known edition keeps
pub mod Editions
-- the pairs, one after the other
mod Chains
-- what a reader of a laid out file uses
pub mod Inside
-- causes 1 to 3 and the layout
pub mod LaidOut
-- the causes by their tests
mod Causes
-- the walk over the pairs
mod Walks
-- the file of its parts
pub mod Wholes
-- the starting part
pub mod Starting
-- document 01's cases
pub mod Cases
-- the file of fitting parts
pub mod Made
-- the twins of a file
pub mod Twins
