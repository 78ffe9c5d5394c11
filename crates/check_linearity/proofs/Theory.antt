-- what a term does to one mark, and which mark it may meet
pub mod Changes
-- a term with two subterms
pub mod Subterms
-- a lambda: what its entry says of the test and of the pass
pub mod Lambdas
-- a case: what its subject's type says of them
pub mod Components
-- a term that leaves marks keeps the rule of cause 10, and leaves the marks that it should
pub mod Sound
-- a term that keeps the rule, and meets marks that it may, leaves marks
pub mod Complete
-- the one pass is the calculus' test
pub mod Linear
-- marks in an array, and a walk with them
pub mod Levels
pub mod Walks
-- small terms, by computation
pub mod Cases
