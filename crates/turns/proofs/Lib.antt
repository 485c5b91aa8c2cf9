pub mod Reach
-- what a turn says
pub mod Meaning
-- a turn is a turn of the machine that order drives
pub mod Machine
pub mod Follows
-- each processor's calls report its own lists, in order
pub mod Own
-- ground 15 refuses exactly what no row reaches
pub mod Reached
-- rows that have reported every action, and what holds of every row
pub mod Complete
-- all are finished after a complete row, and only then
pub mod Finished
-- every order is some row's
pub mod EveryOrder
-- the row of a run in a caller's order is complete
pub mod CallersOrder
