-- Document 01, "A step", in bytes: what each rule of Fig. 5 makes of an image.

-- places in an application, by the table of node forms
pub mod Positions
-- what a move makes of an image, rule by rule
pub mod Effects
-- the image after a step
pub mod Moves
-- what a writer of the image after a step needs, and that the step is the calculus's
pub mod Stepped
-- rules 1, 8 and 9: a body with values in it
pub mod Substitutions
-- the meeting of two values in a thread of an image
pub mod Meets
