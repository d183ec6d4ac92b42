-- Laws that the code cites.
-- The lines by number; the rows and the forms at a stage.
pub mod Lines
pub mod Forms
-- The candidates for a row, how large they and the forms are, and the tests that tell which candidate is the row.
pub mod Candidates
pub mod Sizes
pub mod Expanding
pub mod Classes
pub mod Passing
-- Rows of tables that are set; what the tables of a sheet tell.
pub mod TableRows
pub mod StageRows
-- The tests of a row, and the search for the row of a kind.
pub mod RowTests
pub mod RowSearch
-- The forms of lines; the table of the lines; the loop over the kinds.
pub mod LineForms
pub mod LineTable
pub mod KindByKind
