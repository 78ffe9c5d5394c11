-- Laws of going on from node to node.

-- numbers of a band
pub mod Numbers
-- codes that are passed over
pub mod Codes
