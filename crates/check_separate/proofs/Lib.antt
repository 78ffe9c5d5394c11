-- Laws for causes 20 and 21.

-- the walk that asks each name, and what its loop knows
pub mod Owning
-- what an accepted recipe gives of a bay
pub mod Known
-- cause 20 bay by bay
pub mod Settings
-- what each bay owns in the starting image; cause 21 bay by bay
pub mod Shares
