-- What is printed: the page that was written, and the page of what was read.
pub mod Printed
