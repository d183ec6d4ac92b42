-- What the proofs of the functions cite.
pub mod Copying  -- bytes copied one by one
pub mod Lines  -- lines as they stand in a buffer, taken in turns
pub mod Headers  -- the header with another number of lines
pub mod Sheets  -- the sheet of the reached part
pub mod Laws  -- the part of an accepted sheet is accepted, with the same norms
