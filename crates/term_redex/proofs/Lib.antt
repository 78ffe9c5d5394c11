-- Laws of contexts in bytes, and of the search.

-- an expression in a context: its bytes, its size, its nodes, and where it stands
pub mod Contexts
-- what a search asks of a node, by its tag
pub mod Tags
-- the place of a node, by those of its subterms
pub mod Places
-- what the node at the front of a term says of it
pub mod Nodes
-- the search, turn by turn
pub mod Search
-- from stop to stop
pub mod Sought
-- what an answer of the search says of the expression, and where the two values stand
pub mod Meetings
-- the place of document 01's cases, by computing it
pub mod Cases
