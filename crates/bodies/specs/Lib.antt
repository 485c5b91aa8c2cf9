-- the numbers that wait in a body
pub mod Stack
-- what the code asks of items before it works them
pub mod Workable
-- what a row does, and where the items of a statement end
pub mod Stopped
