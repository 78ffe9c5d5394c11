-- What is proved of the text; nobody needs to read it in order to believe the definitions.

-- hexadecimal: byte after byte, and lengths
pub mod Digits
-- the text by the verdict; an input that is longer than any recipe
pub mod Lines
-- document 01's text for case A, and the one line of refused files
pub mod Cases
