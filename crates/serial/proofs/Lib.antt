-- the walk over the rows of a loop, and over the loops
pub mod Walks
-- one offset for each array that is stored
pub mod Offsets
-- the test decides it, and names the least pair
pub mod MeetingLaws
-- a table is accepted where no loop collides
pub mod Parallel
