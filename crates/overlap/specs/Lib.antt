-- where two loops meet, for one index
pub mod Overlap
-- tests made of two
pub mod Booleans
-- known results
pub mod Example
