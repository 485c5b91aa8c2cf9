-- sets of sixteen marks, and their masks
pub mod Marks
-- laws of them
pub mod MarkLaws
