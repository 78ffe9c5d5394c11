-- Document 02, T-10: the accepted one-bay terms of a size, in ascending order of their bytes.

-- the order of byte strings
pub mod Order
-- what is listed, and what comes next
pub mod Listed
-- a search in order, for any tree of pieces
pub mod Search
-- the pieces of terms, by types
pub mod Goals
-- the answer of a call
pub mod NextTerm
-- the request, whole
pub mod SmallRecipes
