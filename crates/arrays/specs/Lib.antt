-- What the contracts cite.
pub mod Reply  -- the number returned, what was lent and the answer array
pub mod Session  -- a session that is lent as an array; arrays without room
pub mod Values  -- the values of each answer, in the layout of its array
