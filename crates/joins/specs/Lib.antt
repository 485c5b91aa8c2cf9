-- a table as a row of records
pub mod Records
-- two tables joined: the answer, and what the lent output then holds
pub mod Joining
-- small tables joined, by computation
pub mod Example
-- what is written can be copied
pub mod Copied
-- what joining is refused with
pub mod Refused
