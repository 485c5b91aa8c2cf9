-- the reading of a whole table
pub mod Reading
-- a table as it is kept in a store
pub mod Store
-- what is read off a store, and what is put there
pub mod StoreLaws
-- what it is that a store holds a table
pub mod Stored
-- the store holds what was read
pub mod StoredLaws
-- what is known of a store that holds a table, field by field
pub mod Held
-- what code tells of a reading, and what it leaves in the store
pub mod ReadInto
-- laws of it
pub mod ReadIntoLaws
-- how a reading that accepts goes
pub mod Accepting
-- a loop's references as its rows have them
pub mod Rows
-- laws of it
pub mod RowLaws
