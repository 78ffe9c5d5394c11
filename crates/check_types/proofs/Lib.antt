-- Laws of types in bytes.

-- the environment in an array
pub mod Environments
-- the entry that a type number names
pub mod Entries
-- terms with no subterm
pub mod Leaves
-- nodes with two subterms, form by form
pub mod TwoNodes
-- the type of a term from those of its subterms
pub mod Walks
