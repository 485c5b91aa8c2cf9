-- one step, from a table's bytes
pub mod Step
-- the barrier, 15 and a turn as docs/TABLE.md says them
pub mod Worded
-- the run in a caller's order
pub mod Run
-- a step of an accepted plan
pub mod Reach
