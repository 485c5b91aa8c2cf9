-- the records before a place
pub mod Places
-- a place is in the input; an end record has no body
pub mod PlaceLaws
-- each of the grounds 1 to 8 by itself
pub mod Statements
-- the tests of a record, in docs/TABLE.md's order
pub mod Tests
-- what an accepted table is
pub mod Accepted
