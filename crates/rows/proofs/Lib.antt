-- demand 3
pub mod Theorem
