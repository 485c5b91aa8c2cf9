-- a refusal, or bytes
pub mod Given
-- bytes that fit or not: what code tells and leaves
pub mod Gives
