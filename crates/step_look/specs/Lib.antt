-- What a look at a thread says of the calculus's step, and what the step leaves.
pub mod Leaving
pub mod Looked
