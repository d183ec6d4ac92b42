-- What the contracts cite.
pub mod Word  -- a number in decimal
pub mod Words  -- words one after another, and the numbers that they say
pub mod Statements  -- what these definitions come to
