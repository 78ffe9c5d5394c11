-- What a step on an image that stands answers beside its outcome.
pub mod Counted
