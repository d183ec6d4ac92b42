-- Lists of kinds; what the calls come to, where they are refused and where not; what the answers mean.
pub mod Listed
pub mod Calls
pub mod Promises
