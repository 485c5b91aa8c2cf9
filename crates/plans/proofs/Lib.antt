-- an accepted plan fits
pub mod Accepted
-- and is laid out for other code
pub mod CodeLaws
-- what the code found is the table's plan
pub mod Laws
-- those of an accepted plan are
pub mod OnLinesLaws
-- demand 2, from a table's bytes
pub mod FromBytes
