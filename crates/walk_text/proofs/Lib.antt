-- What the proofs of the functions cite.
pub mod Texts  -- the texts of a line, one after another
