-- What is printed: the text of a reply, and that of the call of what was read.
pub mod Printed
