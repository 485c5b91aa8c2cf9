-- which iterations commute
pub mod Commute
