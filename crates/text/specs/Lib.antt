-- characters as bytes
pub mod Ascii
-- what lent bytes hold after a text was written into them
pub mod Lent
-- texts one after the other, with room and without
pub mod Written
-- what a writer puts into them
pub mod Puts
-- a number in decimal
pub mod Decimal
-- a line: a word and numbers
pub mod Line
