-- Laws over any lines, and what they come to on a sheet.
pub mod Arrays  -- lists of counts as fields
pub mod Sweeps  -- the best line of a kind, one sweep, all sweeps
pub mod Laws  -- of a sheet that was read, and of an accepted one
pub mod Gains  -- g
