-- a ground by its number, and its place
pub mod StatementLaws
-- the summary that the tests look at, in the words of the statements
pub mod Counted
-- how a reading goes
pub mod Trace
-- what a test finds is a ground
pub mod Found
-- a refusal is given only where its ground holds; an accepted table meets none
pub mod Theorems
-- the order inside one record: the first test that holds gives the number
pub mod FirstTest
-- an accepted table is so
pub mod AcceptedLaws
-- how many bytes the records of a table take
pub mod Sizes
-- the first 2,364 bytes decide the answer
pub mod Prefix
-- so the first 4,096 do
pub mod PrefixKept
