-- the sets from a loop's rows
pub mod Rows
-- the rows of a loop, and the walk over the loops
pub mod Walks
-- which arrays are in the sets
pub mod Members
