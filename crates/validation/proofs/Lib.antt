-- What the proofs of the functions cite, and what the crates above cite of the check.
pub mod Checking  -- what a check of the table comes to, by the comparison that it makes, and what the answer tells of the sheet
pub mod FieldNumbers  -- the check of two field numbers after other checks
