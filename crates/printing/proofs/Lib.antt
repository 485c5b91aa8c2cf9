-- what is printed is the table's text
pub mod Laws
-- what the call gives where a plan is refused, and where it is accepted
pub mod Given
-- where it is refused the lent bytes stay as found
pub mod GivenKept
-- the longest listing of an accepted plan
pub mod Longest
-- so much room is enough
pub mod LongestGiven
