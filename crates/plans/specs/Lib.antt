-- a table's plan: shifts, peels, threshold, its own or by hand, and for P processors its blocks and lists; 10, 17 and 11
pub mod Plans
-- what asking for a plan tells
pub mod Checking
-- what is known of an accepted plan
pub mod Accepted
-- blocks on whole lines
pub mod OnLines
-- what the code leaves of it
pub mod Code
-- 11 is nowhere given where bounds that play no part would not give it
pub mod NeverShort
