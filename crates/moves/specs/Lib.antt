-- What the contracts cite.
pub mod Lines  -- lines in order, which of them a field may use, and how far its counts grow
pub mod Following  -- the table of the lines that follow
