-- The theorems about separate bays, on configurations.

-- what a bay owns after `set` and `++`; places among its names
pub mod OfBay
-- lists alike
pub mod Alike
-- expressions the same: substitution, contexts, the place where two values meet
pub mod Same
-- two images that are the same to one bay: changes that keep it so
pub mod Mirrors
-- a turn of the bay in both: the same answer, and images the same to it again
pub mod Both
-- a turn of another bay: nothing of this one moves
pub mod Other
-- shares: they are the stronger limits, and decide 15
pub mod Shares
-- the turns of a bay in a run
pub mod ConfigTurns
-- what holds of every state of a run
pub mod Fine
-- what a step answers and leaves, to its bay and to the others
pub mod Turns
-- two runs, turn by turn
pub mod Runs
-- the starting image of a recipe that suits the second profile
pub mod Start
-- the claim, and what holds all through a run
pub mod Claim
-- Examples, computed.

-- turns
pub mod Cases
-- two recipes with one bay in common: the claim says something of them
pub mod Tenants
