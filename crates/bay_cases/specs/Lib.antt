-- Document 01, "Bay cases": the proved ones, and rows for the sentences beside them.

-- rows of one table
pub mod Cases
-- document 02, T-02, sentence by sentence
pub mod CellContents
-- document 02, T-03: rows of pairs and lists
pub mod Pairs
-- document 02, T-03: steps of images with the new forms
pub mod PairSteps
-- document 02, T-03, sentence by sentence
pub mod PairsAndLists
-- document 02, T-04: rows of runs by the runner
pub mod HouseRuns
-- document 02, T-05: steps on both sides of the limit of nodes
pub mod WeightSteps
-- document 02, T-06: rows of test loads
pub mod TestLoads
-- document 02, T-07: rows of edition 3, their runs and test loads
pub mod StartingRows
-- document 02, T-08: rows of recipes of several bays, and steps of images from outside
pub mod OwnerRows
-- document 02, T-09: rows of the second loader, and of the second stepper on images from outside
pub mod SeparateRows
