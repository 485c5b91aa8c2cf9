-- one call
pub mod Calls
-- the calls of an order
pub mod Order
-- the calls that use up the lists
pub mod Closing
-- a run of an accepted plan
pub mod Laws
