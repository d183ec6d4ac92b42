-- Laws that the code cites.
-- The order of lines.
pub mod Laws
-- Places in a list that is in order, and what insertion does to it.
pub mod Sorting
-- The pass over two lists that are in order.
pub mod Merging
-- The classes of lines, by a list of their first lines.
pub mod Classing
