-- Document 01, "The image": a configuration in bytes, read and written; refusal 13.

-- components in bytes, by kind and owner
pub mod Holding
-- the bytes of a configuration with its owners, and what bytes say
pub mod Configuration
-- refusal 13, of any slice
pub mod Stands
