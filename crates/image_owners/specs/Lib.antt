-- Document 02, T-08, "Every name knows its bay".

-- the statements
pub mod Ownership
