-- Laws that the proofs cite.
pub mod Sizes  -- how large is what the calls give
pub mod Answered  -- the texts of the calls, from what the calls give
