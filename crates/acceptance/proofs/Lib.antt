-- Laws that the proofs of the functions cite, and the crates above.
pub mod Acceptances  -- checks 9 and 10, and all ten
