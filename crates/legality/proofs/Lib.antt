-- what the code finds of a plan by hand is what the definitions say
pub mod Laws
-- laws of its numbers
pub mod WrittenLaws
-- what an accepted one is
pub mod ByHandLaws
