-- Laws that the proofs cite.
pub mod Answered  -- the text of a walk, from what the walk gives
