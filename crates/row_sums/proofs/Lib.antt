-- Laws that the proofs cite.
pub mod Taking  -- a row taken away from counts, a count at a time
pub mod Sums  -- the fields of a size whose rows add up to given counts, a kind at a time
pub mod Loops  -- the loops over the kinds
