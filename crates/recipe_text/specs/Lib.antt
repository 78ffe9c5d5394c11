-- Document 01, "The supplier's host": the two lines that the program writes.

-- the text of a recipe, by its bytes
pub mod Text
