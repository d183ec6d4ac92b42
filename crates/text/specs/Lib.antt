-- What the contracts of the writers cite, beside the model's `Page`.
-- A text that is appended to what a lent buffer holds so far.
pub mod Appended
-- The texts of counts.
pub mod Count
-- How long texts get.
pub mod Lengths
