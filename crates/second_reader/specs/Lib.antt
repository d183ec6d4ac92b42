-- What the contracts cite.
pub mod Fields  -- fields as the player holds them
