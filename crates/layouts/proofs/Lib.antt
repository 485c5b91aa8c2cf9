-- the lists of one processor, and the walk over all
pub mod Laws
