pub mod Answers
pub mod Settlement
pub mod Promises
