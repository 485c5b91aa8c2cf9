-- what the search for the n-th iteration keeps
pub mod Search
-- the sums where all loops are at work
pub mod Lines
-- laws of it
pub mod LineLaws
-- what the contracts say of the loops in columns
pub mod Code
