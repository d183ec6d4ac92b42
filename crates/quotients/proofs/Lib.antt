-- One kind's counts, and the loop over the kinds.
pub mod Loops
