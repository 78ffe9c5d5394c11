-- Document 02, T-09 "Separate bays", on configurations: what the second profile promises each bay.

-- the same expression, numbers of names and of types apart; the same bay of two recipes
pub mod Same
-- the turns of one bay in an image, and its setting
pub mod Turns
-- what the second profile keeps of every image of a run
pub mod Apart
