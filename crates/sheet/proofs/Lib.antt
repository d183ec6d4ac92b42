-- What the proofs of the functions cite, and what the crates above cite of the reader.
pub mod Counts  -- lists of counts, over any number of kinds
pub mod Plus  -- sums of counts, over any number of kinds
pub mod Laws  -- what a card that was read tells of its sheet
pub mod Reading  -- the places that the functions compute are those of the definitions
