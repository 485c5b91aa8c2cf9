-- the bytes of the longest table, and of an input that is refused furthest
pub mod Longest
-- the bounds on bytes are attained
pub mod Attained
