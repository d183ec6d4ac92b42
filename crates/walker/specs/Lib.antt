-- What the contracts cite.
pub mod Answers  -- the answer and the session as the model has them
pub mod Promises  -- what the answer means: demand 1, the round game and whole days, of the enum that the call returns
