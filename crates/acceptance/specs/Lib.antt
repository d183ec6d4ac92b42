-- What the contracts cite.
pub mod Acceptance  -- checks 9 and 10 by any norms, and what all ten come to
