-- what a step answers and leaves, by what leads to each answer
pub mod Answers
