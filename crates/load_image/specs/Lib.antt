-- Document 01, "Loading": the starting image of a recipe.

-- the starting image, and its components in bytes
pub mod Starting
