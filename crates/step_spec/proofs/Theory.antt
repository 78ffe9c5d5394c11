-- The theorems about a step on bytes.

-- a rule answers exactly when Fig. 5 has that move and its outcome fits, and the image is that outcome's
pub mod Exactly
-- what a step replies to any slice, and how each answer of the calculus is told
pub mod Replies
-- an awaited name is a name of the image
pub mod Waiting
