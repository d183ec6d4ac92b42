-- The terms as the papers say them: expansion, bisimulation, the sentences on stages, the base; the round game, and the finer one.
pub mod Expansion
pub mod Stages
pub mod Terms
pub mod Game
pub mod FinerGame
-- Pairs examined and counted, where an allowance may end the count.
pub mod Counted
-- What is claimed: how large numbers grow, shelf numbers, squads, frequencies, the marks of the base, the finer comparison, the desks of a session, what the terms that compute mean, and the demands.
pub mod Widths
pub mod Shelves
pub mod Squads
pub mod Frequencies
pub mod Since
pub mod Finer
pub mod Days
pub mod Meanings
pub mod Demands
