-- Laws that the proofs cite.
pub mod Words  -- the verb and the numbers that words say
pub mod Worked  -- examples
