-- Document 01, "A step": the image after a step, name by name.

-- what a step makes of a name
pub mod Changes
