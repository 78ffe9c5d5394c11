-- Document 02, T-06, "A repeatable test load": its draws and its lines.

-- the state, and a draw
pub mod State
-- the thread picked; the draws
pub mod Draws
-- the input, and the lines
pub mod Lines
-- what the request says of every input
pub mod TestLoad
