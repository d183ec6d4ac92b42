-- What the contracts of this crate cite.
-- What is kept of the stages.
pub mod Kept
-- The settle loop: what it holds at a stage, and what it answers.
pub mod Settle
-- The least stage that parts two fields.
pub mod Parting
