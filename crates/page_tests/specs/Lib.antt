-- What the contracts of `page_tests` cite.
-- A count of bytes at the front of a buffer.
pub mod Counts
