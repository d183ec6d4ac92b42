-- Laws that the proofs cite.
pub mod Shelved  -- the line of a shelf number; how many kinds there are where a field is found
