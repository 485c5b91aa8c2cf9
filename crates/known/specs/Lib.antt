-- records in bytes
pub mod Records
-- small tables in bytes
pub mod Bytes
-- what is told of a table's bytes, to be computed
pub mod Computed
-- the example's memory, and what is told of its runs and steps
pub mod Memory
-- the known results, one record
pub mod Known
-- which references make a dependence
pub mod Dependences
-- and where the loops' bounds leave none
pub mod Bounds
-- what a misreading would say otherwise
pub mod Misreadings
-- number and place for each ground that a table meets
pub mod Refusals
-- which of several grounds is told
pub mod Precedence
-- each limit of a table, and one past it
pub mod Limits
-- what a body works out
pub mod Values
-- the grounds that a call meets beside a table's
pub mod Calls
-- blocks on whole lines
pub mod Lines
-- the example's lists, steps and runs
pub mod Runs
-- the numbers in lent bytes
pub mod Outputs
-- calls on lines of several indices
pub mod LineCalls
-- two tables joined
pub mod Joins
-- the listing's
pub mod Text
