-- the facts as one row of numbers
pub mod Laws
