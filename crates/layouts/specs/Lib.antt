-- a plan laid out: where the phases end, and the lists of a processor
pub mod Layout
-- where the phases of one processor end
pub mod Ends
