-- What the contracts of this crate cite.
-- What the tables hold at a stage, and lines at a stage: candidates, replies, classes.
pub mod Stage
-- Tables of forms.
pub mod Forms
-- Which lines tell candidates for the row of a kind; what is given and known when rows are sought.
pub mod Row
pub mod StageRows
