-- What is proved of writes; nobody needs to read it in order to believe the definitions.

-- two writes are one; what was written is read back
pub mod Writes
-- a copy by pieces
pub mod Copies
-- document 01, "two-byte numbers are little-endian"
pub mod TwoBytes
