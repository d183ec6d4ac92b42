-- Laws that the proofs cite, and the examples.
-- What the rows of the code say.
pub mod Rows
-- A sentence of each kind, and the limits in the sentences, closed by computation.
pub mod Worked
-- Every refusal has a sentence.
pub mod Spoken
