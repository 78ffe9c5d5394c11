-- The theorems about images.

-- lists that are mapped
pub mod Maps
-- a component in bytes, and back
pub mod Components
-- a slice stands exactly when it is the image of a configuration that keeps its rules, and of one only
pub mod Exactly
-- how long an image is
pub mod Lengths
