pub mod Outcomes
pub mod SinceOutcomes
pub mod WalkOutcomes
pub mod SquadsOutcomes
pub mod PageOutcomes
pub mod Versions
