-- the references of a table in a store
pub mod Rows
-- what the walk over pairs of references has come to
pub mod Walked
