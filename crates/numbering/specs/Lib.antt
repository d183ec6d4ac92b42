-- What the contracts cite, and what the answers mean.
pub mod Kinds
pub mod Answers
pub mod Promises
