-- The three demands, about the very definitions that the contracts of check, load and step cite.

-- the statements
pub mod Demands
