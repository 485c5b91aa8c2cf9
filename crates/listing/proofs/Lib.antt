-- lines one after the other
pub mod Laws
-- lines that agree make one text
pub mod Same
