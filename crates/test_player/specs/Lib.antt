-- What the contracts cite.
pub mod Played  -- how far the player looks, and why it stops
pub mod Meaning  -- what its answers say of the game
