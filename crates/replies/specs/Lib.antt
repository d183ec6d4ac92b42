-- What the contracts cite.
pub mod Told  -- what a call in words comes to
pub mod Texts  -- what the texts of the calls share
pub mod Numbers  -- calls with the numbers that they take
