-- rows of step calls
pub mod Rows
-- the calls of an accepted plan are calls as turns has them
pub mod Calls
-- an order of all iterations
pub mod Orders
