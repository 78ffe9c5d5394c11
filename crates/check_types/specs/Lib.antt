-- Document 01, causes 9 and 11, on the bytes of a term.

-- the entry that a type number names
pub mod Entries
-- the type of the term at a position
pub mod Walk
-- nodes with two subterms
pub mod Two
