-- Laws that the proofs of the page cite.
-- The model's lines by the values that they show.
pub mod Lines
-- What a settled sheet gives for the lines, and what the page function answers.
pub mod Pages
