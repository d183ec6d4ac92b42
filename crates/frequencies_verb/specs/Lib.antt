-- What the contracts cite.
pub mod Texts  -- the text of the call's answer
pub mod Calls  -- the call with its numbers
