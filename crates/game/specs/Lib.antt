-- What the contracts cite.
pub mod Rounds  -- a part of the walk, counted
pub mod Challenges  -- the challenges to a pair of fields, and the replies to one of them
