-- the grounds 10 to 13, 15, 17, 19 and 20, each by itself
pub mod Statements
-- what each exported function may be refused with
pub mod Refusing
-- the table's own shifts and peels, given by hand as they are written out, are the same plan
pub mod RoundTrip
-- a refused table decides every call on it
pub mod Decided
-- a refused call leaves all as found
pub mod Untouched
