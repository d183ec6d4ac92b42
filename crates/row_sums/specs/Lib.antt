-- What the contracts cite.
pub mod Sums  -- the fields of a size whose rows add up to given counts
