-- Laws that the proofs of the program cite.
-- A row of entries that becomes the next, entry by entry.
pub mod Rows
-- The lines of a row, entry by entry.
pub mod Lines
