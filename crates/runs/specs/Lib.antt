-- Document 01, "A run".

-- a run in bytes
pub mod Run
