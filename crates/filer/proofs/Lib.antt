-- The checks of the calls, the parts that Row hands out, what the loops write, and what the answers mean.
pub mod Rows
pub mod Writing
pub mod Rounds
pub mod Calls
pub mod Settlements
pub mod Promises
