-- the listing that a call gives, and what the program prints; what lent bytes hold once it is printed
pub mod Printing
-- the first 4,096 bytes of a table decide its text
pub mod Prefix
-- what the program prints is what the call gives, or the line of its refusal
pub mod Program
-- how long lines and listings are
pub mod Lengths
