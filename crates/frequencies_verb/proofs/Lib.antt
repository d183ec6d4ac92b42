-- Laws that the proofs cite.
pub mod Counted  -- the line of the answer; how many kinds there are where it is given
