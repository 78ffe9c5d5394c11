-- the marks by their numbers
pub mod Marks
-- where the subterms of a walkable term are walkable
pub mod Ways
-- what a walk leaves of the marks, node form by node form
pub mod Walks
-- types and uses together
pub mod Together
