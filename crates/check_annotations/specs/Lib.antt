-- Document 01, cause 8, entry by entry.
pub mod Nodes
