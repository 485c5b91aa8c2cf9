-- the loops' walks, and what is told of the run
pub mod Laws
