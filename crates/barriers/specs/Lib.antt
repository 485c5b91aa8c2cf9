-- what the code computes, by numbers
pub mod Code
