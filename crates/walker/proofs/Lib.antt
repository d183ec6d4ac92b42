-- What the proofs of the functions cite.
pub mod Tries  -- the numbers of rounds tried one after another
pub mod Refusals  -- the checks of the call
pub mod Days  -- whole days of calls
pub mod Promises  -- what the answer means
