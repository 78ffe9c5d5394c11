-- What the functions of a test load are asked, and answer on the way.
pub mod Lines
