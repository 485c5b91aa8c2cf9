-- what an exported step tells
pub mod Laws
