-- What a C program sees of an outcome.
pub mod Numbers
