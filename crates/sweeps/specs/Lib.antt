-- the sets of arrays, and the sweeps before and after
pub mod Sweeps
-- the same sets from a loop's rows
pub mod Rows
