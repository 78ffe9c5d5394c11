-- Document 01, refusal 13: what the check of an image answers.

-- the answer
pub mod Answer
-- its parts: expressions name by name, their nodes, handles and futures
pub mod Parts
