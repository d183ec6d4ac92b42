-- What the contracts cite.
pub mod Rule  -- the addition rule as a test of a whole table
pub mod Kinds  -- lists of kinds in number order
