-- a word byte by byte, a number digit by digit, a line field by field
pub mod Laws
-- its digits, and how many there are
pub mod Digits
-- how long a line is
pub mod Lengths
