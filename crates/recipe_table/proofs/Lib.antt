-- a table and the array that holds it
pub mod Arrays
-- loops over the entries
mod Turns
-- keys of entries
mod Keys
-- rules by their tests
mod Rules
-- the table of a file
pub mod Tables
-- document 01's cases
mod Cases
