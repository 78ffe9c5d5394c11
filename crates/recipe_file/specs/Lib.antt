-- Document 01, "The recipe file": causes 1 to 3, the parts; T-07's starting part and cause 19.

-- the editions that are known
pub mod Editions
-- bytes, pairs and parts of a file; causes 1 to 3 as tests
pub mod File
-- the starting part; cause 19 as a test
pub mod Starting
-- the layout as a proposition, one field for each sentence
pub mod FileRule
-- the file that some parts make
pub mod Whole
-- the twins of a file in editions 2 and 3
pub mod Twins
