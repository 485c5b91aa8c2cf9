-- laws of it
pub mod GivesLaws
