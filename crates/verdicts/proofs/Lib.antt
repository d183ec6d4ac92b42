-- Laws that the proofs of the writers cite.
-- What the writers append one after another, and the lines.
pub mod Pairs
