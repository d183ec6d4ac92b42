-- What the contracts cite.
pub mod Line  -- the line that a walk answers
