-- sequences of actions: what is said of them
pub mod Sequences
-- laws of lists: members, order, permutations
pub mod Lists
-- when two orders of the same actions leave the same state
pub mod Reorder
-- plans and schedules: what a schedule does
pub mod Machine
-- in-order lists leave what the plain order leaves
pub mod Plain
-- the same where a turn is one step of an action
pub mod Steps
-- plans told by numbers: phases, processors, keys
pub mod Rows
