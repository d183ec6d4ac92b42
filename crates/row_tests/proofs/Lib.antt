-- Lemmas that the proofs of this crate share.
-- What a test of each entry of a list comes to.
pub mod Tried
