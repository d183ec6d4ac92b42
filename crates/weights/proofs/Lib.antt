-- Laws over any width, any weights and any lines.
pub mod Counts  -- sums of counts by weights
pub mod Bounds  -- how large the sums grow
pub mod Values  -- values of reads, the lesser of two, the order of kinds
