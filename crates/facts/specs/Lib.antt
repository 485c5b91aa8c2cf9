-- facts of a table, as numbers
pub mod Facts
