-- what the next call reports
pub mod Next
-- what performing it leaves
pub mod Performing
-- a step of an accepted plan
pub mod Laws
-- laws of it: it is the step from the table's bytes
pub mod Same
