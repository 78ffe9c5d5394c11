-- Checking a recipe file. What is answered stands in crate check_spec.

-- causes 5 to 8
pub mod Refusals
