-- What the contracts of this crate cite.
-- Flat tables of counts, read as fields.
pub mod Table
-- The lines as a table of bytes.
pub mod Lines
-- Which lines match, and what can be said by it.
pub mod Match
-- In which sense fields are compared.
pub mod Senses
-- The classes of the lines that a field may use.
pub mod Class
