-- given, a ground holds; where it holds, it is given
pub mod Tests
-- the same of 19 and 20
pub mod HandTests
-- each exported function is refused only so
pub mod Refused
-- the planner's answer where 10, 17 or 11 holds
pub mod Fitting
-- where a ground holds and none before it, it is given
pub mod Where
-- what is accepted meets none
pub mod Free
-- the planner's answer decides every call that plans
pub mod Planning
-- the planner's answer where the bytes of two plans by hand are the same
pub mod Alike
-- of a plan by hand only as many bytes are looked at as it has
pub mod Behind
