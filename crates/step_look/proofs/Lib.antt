-- what a look comes to, by what leads to it
pub mod Looking
pub mod Theory
