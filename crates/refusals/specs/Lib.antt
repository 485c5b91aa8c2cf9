-- a refusal: ground, place, what it names
pub mod Refusals
-- an answer: what was asked for, or a refusal
pub mod Answers
