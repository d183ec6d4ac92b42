-- What the proofs of the functions cite.
pub mod Adding  -- marks that are added in turns
pub mod Passing  -- the marks by a field, and by a line of a kind
pub mod Following  -- the loop over the kinds that are marked
