-- What the functions of a turn say of the definitions.
pub mod Turning
