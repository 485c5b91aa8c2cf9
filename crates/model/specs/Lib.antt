-- arrays, loops, statements, items
pub mod Table
-- what a loop refers to, and where two references meet
pub mod References
-- the memory, and what one iteration does to it
pub mod Bodies
-- the plain run
pub mod PlainRun
-- a walk upward, turn by turn
pub mod PlainRunLaws
-- what holds of a table that is not refused
pub mod Sound
-- an iteration of several statements, by computation
pub mod RunKnown
