-- what is seen of a name, by the look at it
pub mod Sights
-- looking along names, name by name
pub mod Along
-- a turn that was taken
pub mod Turns
