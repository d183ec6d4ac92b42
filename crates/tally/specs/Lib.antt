-- What the contracts cite.
pub mod Judged  -- what a verdict comes to, and how it is counted
pub mod Meaning  -- what a judgement says of the game
