-- what the code's walks make of the definitions
pub mod Laws
-- it is what a turn asks, and ground 15
pub mod Same
