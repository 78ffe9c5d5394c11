-- Document 02, T-04: a house runner, over the definitions that the contracts of check, load and step cite.

-- a look, a turn, the course of a run
pub mod Course
-- how it ends, and what it leaves in the buffers
pub mod Ending
-- what the request says of every run, sentence by sentence
pub mod HouseRunner
