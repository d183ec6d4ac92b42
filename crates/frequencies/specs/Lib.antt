-- What the contracts cite, and what the answers mean.
pub mod Related
pub mod Promises
