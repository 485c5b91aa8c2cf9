-- the numbers that each entry gives
pub mod Entries
-- no block is empty; ranges and lists have the same iterations
pub mod EntryLaws
-- what the code below the entries asks and gives
pub mod Code
-- which number is which
pub mod Places
