-- Laws that the proofs cite, here and in crate exports.
pub mod Replies  -- what a reply comes to
pub mod Codes  -- a refusal's number and place fit what is returned
