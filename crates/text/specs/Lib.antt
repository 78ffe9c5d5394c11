-- Decimal numbers and the line with a verdict, in bytes of ASCII.

-- digits, numbers and the line, by their bytes
pub mod Ascii
-- a text put into a lent buffer
pub mod Put
