-- Rows and norms of the kinds as tables, what is counted by them, the counts of the places; what the call comes to, and what its answers mean.
pub mod Rows
pub mod Places
pub mod Counted
pub mod Calls
pub mod Promises
