-- What is found out once of a table.
pub mod Index
