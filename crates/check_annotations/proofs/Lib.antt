-- Laws of cause 8.

-- the types of constants, on the entries
mod Instances
-- a leaf by its tag
pub mod Leaves
-- a pair or list front by its entry
pub mod Fronts
