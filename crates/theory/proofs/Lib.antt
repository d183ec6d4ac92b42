-- What the model claims, proved. The end is Demands (`demands`) and Meanings (`meanings`); for the code Program, Cut and Checks.
-- Over any normed card, with a second weight that related fields share (0 for document 01) and any set of live kinds:
pub mod Search
pub mod Field
pub mod Moves
pub mod Norms
pub mod Normed
pub mod Stages
pub mod Game
pub mod Rank
pub mod Base
pub mod Unique
pub mod Settle
pub mod Decide
pub mod Find
pub mod Count
pub mod Step
pub mod Consequences
pub mod Further
-- The model's tests decide what they are named for; its lists and searches; its norms, rows and settled stage.
pub mod Exec
pub mod Lists
pub mod Reach
pub mod Certified
pub mod Sweeps
pub mod Fewest
pub mod Cut
pub mod Enumerate
pub mod Rows
-- Shelf numbers: the listing, its order, the table's entries, numbers and fields, the listing of a card.
pub mod Listing
pub mod Order
pub mod Entries
pub mod Numbering
pub mod Shelves
-- Squads: counts that go into counts, joined fields under a bisimulation.
pub mod Quotients
pub mod Remainders
-- Frequencies: how many members of a list pass a test.
pub mod Counting
-- Pairs examined where an allowance may end the count: one part after another, and runs through lists.
pub mod Counted
pub mod Runs
-- Document 01 and the finer sense: the comparison in each sense, whole games, sheets, checks, limits, calls, the marks of the base, widths, decimals, pages.
pub mod Senses
pub mod Paper
pub mod Plays
pub mod FinerPlays
pub mod Sheets
pub mod Checks
pub mod Limits
pub mod Gain
pub mod Refusals
pub mod Places
pub mod Headers
pub mod Verdicts
pub mod Walks
pub mod Calls
pub mod Taken
pub mod Answers
pub mod Days
pub mod Settling
pub mod Program
pub mod FinerRows
pub mod Squads
pub mod Frequencies
pub mod Since
pub mod Widths
pub mod Decimals
pub mod Pages
pub mod Used
pub mod Part
pub mod Finer
pub mod Meanings
pub mod Demands
-- For the crates above: buffers that are written in a loop, kinds that are done one after another, and what an enum tells.
pub mod Writing
pub mod Done
pub mod Told
