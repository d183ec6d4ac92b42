-- What the contracts cite.
pub mod Refusals  -- the number and place of each refusal, and what a result says in the model's terms
