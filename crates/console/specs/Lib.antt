-- What the contracts of `console` cite, beside `KnownBytes` of std.
-- A count of bytes at the front of a buffer.
pub mod Counts
