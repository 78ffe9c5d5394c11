-- Laws of the decision.

-- the component of a name, by its kind
pub mod Names
-- a name that is applied, or first argument of a full exch, by its kind
pub mod Needed
-- the function, by its tag
pub mod Tags
-- each answer of the code
pub mod Decisions
