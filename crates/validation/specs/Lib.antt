-- What the contracts cite.
pub mod Fields  -- the check of two field numbers
pub mod Outcome  -- what the checks come to
