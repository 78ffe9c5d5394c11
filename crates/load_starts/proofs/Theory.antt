-- What is proved of starting nums; nobody needs to read it in order to believe the statement.

-- an accepted file is short
pub mod Lengths
-- document 02, T-07
pub mod StartingValues
