-- Laws that the crates above cite.
pub mod Told  -- what a result tells, where a contract says what it answers
