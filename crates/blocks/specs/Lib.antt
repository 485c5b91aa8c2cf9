-- sums, the largest and the least of a row of numbers
pub mod Sums
-- laws of them
pub mod SumLaws
-- the indices that a table runs over
pub mod Span
-- every index is among them
pub mod SpanLaws
-- the blocks that they are split into, and when these are too short
pub mod Blocks
-- ten indices on whole lines, by computation
pub mod LineKnown
-- the parts of one index: each iteration in one of them, and what a dependence keeps
pub mod Index
-- the same parts as ranges
pub mod Parts
-- which iterations are in a part
pub mod PartLaws
-- a part by the code's own name
pub mod Code
