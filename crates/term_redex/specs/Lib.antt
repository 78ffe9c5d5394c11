-- The place where two values meet, in bytes: definitions to be read beside Fig. 3 and document 01, "A step".

-- the bytes around the hole of a context
pub mod Contexts
-- what a search of an expression asks of a node
pub mod Shapes
-- the place of an expression, as positions
pub mod Places
-- the place among terms that stand one after the other
pub mod Stops
