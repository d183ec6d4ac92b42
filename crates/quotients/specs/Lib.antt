-- What the contracts cite.
pub mod Kind  -- one kind's counts
