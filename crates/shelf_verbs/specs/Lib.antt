-- What the contracts cite.
pub mod Texts  -- the text of each call's answer
pub mod Calls  -- each call with its numbers
