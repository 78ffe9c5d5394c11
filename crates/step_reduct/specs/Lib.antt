-- Document 01, "A step": the expression of the thread that goes, after a step by a rule.

-- what a writer of the image after a step needs
pub mod CanWrite
