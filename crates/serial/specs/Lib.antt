-- ground 9: the test, and the table through it
pub mod Serial
-- the test of a pair and the first pair, by computation
pub mod PairKnown
-- ground 9: the statement, and that the test decides it
pub mod Meeting
-- what the code asks of a loop's rows
pub mod Rows
