-- Document 01, "A step", on bytes: the image is read as a configuration with owners, the calculus makes the step, and the outcome is written.

-- what a step answers, and what it leaves in the out buffer
pub mod Stepping
-- an awaited name has a small number
pub mod Waiting
