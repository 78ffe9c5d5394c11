-- Laws of terms put into bytes, node by node.

-- a bound behind bytes that stand
pub mod Passing
-- what stands, with zeros behind it
pub mod Writing
