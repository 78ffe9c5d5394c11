-- causes 6 to 8 of a node
mod Tests
-- what the loop knows
mod Glancing
