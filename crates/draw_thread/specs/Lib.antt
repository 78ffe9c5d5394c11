-- What the functions of a draw are asked, and answer on the way.
pub mod Drawing
