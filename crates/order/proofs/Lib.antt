-- laws of the machine: what it has done and what is left
pub mod Machine
-- every complete schedule leaves what the plain order leaves
pub mod Plain
-- the same of plans told by numbers
pub mod Rows
-- what a row of turns reports, of any plan
pub mod Reported
pub mod Exists
-- every order is some schedule's
pub mod EveryOrder
pub mod Fine
