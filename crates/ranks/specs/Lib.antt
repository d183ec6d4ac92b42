-- What the contracts of this crate cite.
-- The order of lines, and lists of lines in order.
pub mod Order
-- Where a line belongs in such a list.
pub mod Insertion
-- The first entry of a list that does not come before a line.
pub mod Skip
-- Lists of the first lines of the classes.
pub mod Firsts
