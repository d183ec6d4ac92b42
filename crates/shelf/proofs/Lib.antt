-- What the test of a table says of each entry; the loops over the kinds, from the last down.
pub mod Entries
pub mod Loops
