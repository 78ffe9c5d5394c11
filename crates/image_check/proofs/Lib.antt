-- What the proofs of the check use.

-- answers that a test picks
mod Picks
-- one expression
mod Expressions
-- the expression of one name
mod Components
-- the loop over all expressions
mod Budgets
-- the loop that counts handles
mod Handles
-- handles and futures in pairs
mod Pairs
-- the whole answer
mod Answers
-- images and broken slices, computed
mod Cases
pub mod Theory
