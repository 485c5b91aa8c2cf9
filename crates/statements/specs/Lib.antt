-- number and place for each ground that a further statement can meet, and which of two is told
pub mod Grounds
-- the pair that 9 names
pub mod Pairs
-- dependences, lists, sweeps, runs and plans by hand
pub mod Plans
