-- What the contracts cite.
pub mod Reader  -- the card that was read, and its counts as lists
pub mod Sum  -- sums of counts
