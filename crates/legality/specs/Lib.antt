-- the numbers of a plan by hand, as bytes
pub mod Written
-- a plan by hand: its shifts and peels, or 19 or 20
pub mod ByHand
-- what the code leaves of it
pub mod Code
