-- What the contracts cite.
pub mod Texts  -- the text of a walk's answer
pub mod Calls  -- the call with its numbers
