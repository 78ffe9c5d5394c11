-- Starting nums: what document 02, T-07, says of them.

-- document 02, T-07, sentence by sentence
pub mod StartingValues
