-- What the contracts cite.
pub mod Marks  -- marks on kinds: those added, and the next marked kind
pub mod Kinds  -- the kinds that fields hold, and those that a kind's lines leave
