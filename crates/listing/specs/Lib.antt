-- What the contracts of the writers cite, beside the model's `Page`.
-- How long the lines of kinds and fields get.
pub mod Lengths
-- The lines of kinds and fields over plain values.
pub mod Line
