-- What the contract of the page cites, beside the model's `Page`.
-- How long the lines of a page get.
pub mod Lengths
-- What the page function answers and leaves in the lent buffer.
pub mod Writing
