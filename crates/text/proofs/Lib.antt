-- Laws that the proofs of the writers cite.
-- One text appended after another.
pub mod Append
-- Decimal numbers: their last digit, how many digits they have.
pub mod Decimal
-- A loop that appends one text after another.
pub mod Sequence
