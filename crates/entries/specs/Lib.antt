-- What the contracts of the program cite, beside `Appended` of crate `text`.
-- The table of entries and its text.
pub mod Table
