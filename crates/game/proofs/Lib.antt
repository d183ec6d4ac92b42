-- What the proofs of the functions cite.
pub mod Sides  -- the challenges to a pair by number, and the replies to one of them
pub mod Steps  -- the steps of challenge and reply, in the words of the contracts
