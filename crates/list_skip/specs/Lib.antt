-- From one node that is tried to the next.
pub mod Jumps
