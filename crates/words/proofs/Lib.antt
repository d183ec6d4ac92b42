-- Laws that the proofs cite.
pub mod Decimals  -- one digit after another
pub mod Texts  -- one word after another
pub mod Statements  -- what the definitions come to
