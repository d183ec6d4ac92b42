-- Laws that the code cites.
pub mod Judging  -- judgements, and tests that compare
pub mod Meaning  -- what a judgement says of the game
