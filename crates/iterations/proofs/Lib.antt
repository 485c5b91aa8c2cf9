-- where the arrays begin, and one iteration over the columns
pub mod Laws
