-- The order of terms in bytes, byte by byte.
pub mod Standing
