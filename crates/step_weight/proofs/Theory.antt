-- What is proved of the weights; nobody needs to read it in order to believe the statement.

-- document 02, T-05
pub mod WeighedFirst
