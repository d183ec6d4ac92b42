-- What the contracts cite.
pub mod Bytes  -- bytes copied, and a number written
pub mod Part  -- lines and header as they stand in a buffer, the part of a sheet
