-- the invariant of the reading, and its turns
pub mod Turns
