-- a record in which the tests find no ground is clear
pub mod ClearLaws
-- the three ways that the tests of a record end
pub mod Outcome
-- the kinds that there are, and the ways that the tests go
pub mod Ways
-- a whole record that is clear meets no ground
pub mod Passing
-- a record is told by its own bytes alone
pub mod Same
-- the record at a place is the one that the table says
pub mod LaidOut
-- the encoding of a record is read as that record
pub mod EncodingLaws
-- the bytes of a record are its encoding
pub mod EncodingUnique
-- the encoding of fields that fit is bytes
pub mod EncodingRange
