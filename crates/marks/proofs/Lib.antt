-- the marks of a union and of a single mark, and their count
pub mod Laws
