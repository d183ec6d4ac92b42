-- What the contracts cite, and what the answers mean.
pub mod Promises
