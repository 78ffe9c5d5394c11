-- what the buffer holds after each way through `put_text`
pub mod Ways
pub mod Theory
