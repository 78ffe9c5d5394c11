pub mod Places
pub mod Candidates
