-- What is proved of a run in bytes; nobody needs to read it in order to believe the definitions.

-- a step on the image of a configuration is the calculus's step
pub mod Steps
-- a run in bytes is the calculus's run, image for configuration
pub mod Simulates
-- every step by rule 5 applies a handle and binds a future
pub mod Binding
