-- the walk over the loops that keeps their ranges, and the sum of their indices
pub mod Laws
