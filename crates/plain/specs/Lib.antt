-- the plain run of a table's bytes
pub mod Plain
-- of an accepted table it is the plain run
pub mod PlainLaws
-- a store and a memory on which the code runs
pub mod Running
