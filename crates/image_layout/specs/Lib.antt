-- Document 01, "The image": an image as a list of components in bytes, written and read back, without looking into expressions.

-- a component in bytes, and the bytes of an image
pub mod Encoded
-- a slice read as an image
pub mod Slice
-- document 01's layout: as a proposition, as a test, and what a list of components needs for it
pub mod Layout
-- what a slice must have for a part of it to be read
pub mod Readable
-- what a head that is to be written says
pub mod Heads
-- room for an image in a buffer
pub mod Room
