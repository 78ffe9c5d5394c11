-- The theorems about the verdict on a file.

-- the bays' parts and terms: from the tests to the expressions, and back
pub mod Bays
-- what is answered, from the first cause that fits
pub mod Answers
-- accepted exactly when the file says a recipe that the papers ask for; the recipe is unique, and so are the types answered
pub mod Accepted
-- files that differ in the starting part only
pub mod Alike
