-- Laws that the proofs of the player's functions cite.
pub mod Tokens  -- the tokens of a field, added up
pub mod Pairs  -- a pair looked at in a sense
pub mod Lines  -- challenges and replies by the lines of a sheet, and pairs
pub mod Rounds  -- the numbers of rounds, one after another
pub mod Senses  -- what is looked at in a sense, and the game of that sense
pub mod Meaning  -- what the answers say of the game
