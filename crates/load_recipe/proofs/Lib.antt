-- what a load answers and leaves, by the tests
pub mod Answers
