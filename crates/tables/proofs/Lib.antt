-- Laws that the code cites.
-- Laws over plain lists, for the loops: tables of counts, rows that are stored, candidates for a row, the order of kinds, marks of classes, kinds without a norm.
pub mod Tables
pub mod Stores
pub mod Subtraction
pub mod Sooner
pub mod Marking
pub mod NoNorms
-- Lines that match, by tables and by anything that agrees with them.
pub mod Matching
-- What tests of lines come to.
pub mod Answers
pub mod LineLists
pub mod Products
