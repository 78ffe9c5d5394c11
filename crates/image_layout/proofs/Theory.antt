-- What is proved of the layout; nobody needs to read it in order to believe the definitions.

-- a component that is read
pub mod Slice
-- lists of components: their heads, expressions and lengths
pub mod Components
-- the test of the layout decides it
pub mod Test
-- what was written is read back
pub mod ReadBack
-- a slice keeps the layout exactly when it is the image of one list of components
pub mod Exactly
-- a slice that keeps the layout can be read
pub mod Reading
-- loops over names that write an image
pub mod Turns
-- cases, computed
pub mod Cases
