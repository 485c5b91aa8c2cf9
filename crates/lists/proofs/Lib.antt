-- what stands in them, once, and in which order
pub mod Order
-- laws of it
pub mod BelowLaws
-- each iteration of a table in one of them
pub mod FusionLaws
