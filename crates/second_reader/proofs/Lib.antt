-- Laws that the code cites.
pub mod Counts  -- counts read from a sheet, fields filled count by count
