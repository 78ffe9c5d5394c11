-- threads counted, name after name
pub mod Counted
-- a step on an image that stands
pub mod Stepped
