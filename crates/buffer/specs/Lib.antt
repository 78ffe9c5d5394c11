-- What a run of stores leaves of a lent buffer.

-- the buffer after a write, and what every writer promises
pub mod Written
