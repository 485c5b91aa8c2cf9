-- what a step says
pub mod Meaning
