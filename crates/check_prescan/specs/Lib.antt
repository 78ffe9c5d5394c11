-- Causes 5 to 8 of a part in one pass.

-- what is known of a node that was read
pub mod Nodes
-- a part to which none of them fits
pub mod Stands
