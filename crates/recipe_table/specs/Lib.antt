-- Document 01, "The recipe file": the type table of a file; cause 4.

-- the entries that the table's bytes say; cause 4 as a test
pub mod Entries
-- the table as 256 entries by value
pub mod Filled
-- the rule of an entry in two tests
pub mod Rules
-- an entry as one number
pub mod Keys
