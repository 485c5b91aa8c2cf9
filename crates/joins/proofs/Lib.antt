-- the records of a table, as they are read one by one
pub mod RecordsLaws
-- a table has one encoding
pub mod Canonical
-- what is known where two tables are joined
pub mod Written
-- a table's loops behind those of another: the two readings side by side
pub mod Beside
-- what is written is read back as one table
pub mod ReadBack
-- it is refused with nothing else, and wherever that holds
pub mod RefusedLaws
-- what joining writes can be copied
pub mod Copied
