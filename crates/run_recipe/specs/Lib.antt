-- What the functions of a run are asked, and answer on the way.
pub mod Running
