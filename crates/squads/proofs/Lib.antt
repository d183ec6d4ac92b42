-- What the call comes to, by its checks, and what its answers mean.
pub mod Calls
pub mod Promises
