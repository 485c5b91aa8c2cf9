-- what the code of a run is lent, and what its calls leave
pub mod Code
-- how much a call adds to the idle count
pub mod Idle
-- what a run promises
pub mod Runs
