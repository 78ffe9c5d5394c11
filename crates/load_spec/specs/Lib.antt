-- Document 01, loading: what a load answers, and what it leaves in the out buffer.

-- the starting image of a recipe
pub mod Starting
-- what is answered, and what is left
pub mod Loading
