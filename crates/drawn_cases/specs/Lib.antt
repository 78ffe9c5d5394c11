-- Rows that the model drew and answered. Written by `cargo run --bin write_rows` in model/, and not by hand.

pub mod Rows
pub mod Checks1
pub mod Checks2
pub mod Checks3
pub mod Checks4
pub mod Loads1
pub mod Steps1
pub mod Steps2
pub mod Steps3
pub mod Steps4
pub mod Steps5
