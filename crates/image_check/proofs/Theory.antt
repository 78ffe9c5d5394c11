-- What nobody needs to read in order to believe the definitions.

-- a configuration name by name
pub mod Names
-- the parts make up the whole test
pub mod Whole
-- what an answer says
pub mod Answers
