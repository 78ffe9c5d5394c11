-- Laws and theorems on terms in bytes.

-- rules of a table
pub mod Table
-- numbers of several bytes
pub mod Numbers
-- the node at the front
pub mod Nodes
-- the reader as a relation; its equation
pub mod Reading
-- bytes are one term exactly where they are the bytes of a well-formed tree
pub mod Terms
-- a list with a term at its front, seen through the node at its front
pub mod Fronts
-- nodes by their shape: for any tag with so many subterms
pub mod Shapes
-- a term at a position, seen through the node there
pub mod Views
-- the table in the code
pub mod Packed
-- leaves by their tag
pub mod Leaves
-- nodes and bytes of a term
pub mod Sizes
-- an expression and the tree that it is written as
pub mod Trees
-- expressions and their bytes: the theorems
pub mod Expressions
-- terms of the bay cases, computed
mod Cases
