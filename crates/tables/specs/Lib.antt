-- what a table's bytes are refused with
pub mod Told
