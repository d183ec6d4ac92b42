-- What the contracts cite.
pub mod Verb  -- the table of verbs
pub mod Call  -- the calls of the code, by their names
pub mod Query  -- from the words to the text
