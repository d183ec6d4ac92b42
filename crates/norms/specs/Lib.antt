-- What the contracts cite.
pub mod Norms  -- arrays of norms, an accepted sheet, what its lines leave
pub mod Sweep  -- the parts of one sweep
