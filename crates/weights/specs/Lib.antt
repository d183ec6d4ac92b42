-- What the contracts cite.
pub mod Value  -- values of kinds, and what they make of a read
