-- What the contracts of the writers cite, beside the model's `Page`.
-- The lines of pairs over plain values.
pub mod Pair
