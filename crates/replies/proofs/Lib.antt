-- Laws that the proofs cite.
pub mod Replies  -- what a text that was appended tells
pub mod Numbers  -- calls with as many numbers as they take
pub mod Texts  -- the texts of calls, from what the calls give
