-- a turn, the counts that are refused, and a step
pub mod Turn
-- the same for two phases, as docs/TABLE.md says it
pub mod TwoPhases
-- rows of calls, and what holds of them whatever a call does
pub mod Row
pub mod RowLaws
pub mod Lowest
-- the counts that rows reach, and what a turn does from them
pub mod Reachable
-- what is asked of calls; a row of them is a schedule of that machine
pub mod Calls
-- an order of all actions
pub mod Orders
