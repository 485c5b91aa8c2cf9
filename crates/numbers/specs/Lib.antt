-- numbers as four little-endian bytes, one after the other
pub mod Numbers
-- how long they are
pub mod NumberLaws
-- numbers that are asked for: they fit, or 13
pub mod Asked
-- what code tells and leaves of them
pub mod AskedLaws
-- pairs of numbers, one after the other
pub mod Pairs
