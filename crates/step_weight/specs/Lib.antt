-- What the outcomes of rules 1, 8 and 9 weigh.

-- document 02, T-05, sentence by sentence
pub mod WeighedFirst
