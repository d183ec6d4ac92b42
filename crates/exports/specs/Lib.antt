pub mod Calls
pub mod Version
