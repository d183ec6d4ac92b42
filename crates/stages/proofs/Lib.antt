-- Laws that the code cites.
-- When a stage is settled; the verdict on two fields.
pub mod Settled
pub mod Verdict
-- Arrays that are filled; where two fields part, stage by stage; fields as read.
pub mod Keeping
pub mod Parted
pub mod Fields
-- The loop over the stages; what the calls answer.
pub mod Unsettled
pub mod Outcomes
-- What the reached part of a sheet settles to is what the sheet does.
pub mod Parts
