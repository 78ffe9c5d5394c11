-- Document 02, T-09, "Separate bays": the request's sentences, of the definitions that the second loader and the second stepper meet.

-- the turns of one bay in a list of steps
pub mod Histories
-- the sentences
pub mod SeparateBays
