-- What the proofs of the functions cite.
pub mod Fields  -- fields as lists of counts: one token less, a line's use, how far the counts grow
pub mod Searches  -- the search for the next number that passes a test
pub mod Following  -- the table of the lines that follow, and the search through it
