-- the highest owner
pub mod Highest
-- the nodes of a name
pub mod NameNodes
-- what each bay owns, name by name
pub mod Columns
-- what a step changes
pub mod Changing
-- bay by bay
pub mod Weighing
