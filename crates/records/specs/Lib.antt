-- numbers in a row of bytes, and the kinds of records
pub mod Bytes
-- the records before a place, and what the tests look at in them
pub mod History
-- the tests of one record
pub mod Grounds
-- what is known of a record that meets no ground
pub mod Clear
-- a record in bytes, as docs/TABLE.md lays it out
pub mod Layout
-- a record as bytes
pub mod Encoding
-- the sizes of a store
pub mod Sized
-- a row where none has been put
pub mod NoRow
