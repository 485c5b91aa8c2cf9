-- demand 3, and what holds of every row
pub mod AnyRow
-- the run in a caller's order
pub mod CallersOrder
-- demand 3 of orders: every order is some row's
pub mod EveryOrder
-- all are finished after a complete row
pub mod Finished
-- and after a run in a caller's order
pub mod FinishedRun
