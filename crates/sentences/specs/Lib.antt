-- What the contracts cite.
-- The sentences of refusals, by number and place.
pub mod Sentence
-- What a row of the code says.
pub mod Row
-- The claim that every refusal has a sentence.
pub mod Every
