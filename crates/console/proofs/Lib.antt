-- Laws that the proofs cite, and those of the programs.
-- What of an input was read.
pub mod Inputs
