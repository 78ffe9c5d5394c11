-- Document 01's cause 10 in one pass over a term. The definitions; the theorems stand in proofs/, below Theory.

-- what a term leaves of the marks of the variables in scope
pub mod Spend
-- the marks in an array, outermost first
pub mod Levels
