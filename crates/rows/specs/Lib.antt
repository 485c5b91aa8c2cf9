-- the plain order: what the plain run does, as one list
pub mod PlainOrder
-- dependences, and fusions that keep them
pub mod Legal
-- where they meet, one reach lies inside the other
pub mod Contained
