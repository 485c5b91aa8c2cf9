-- what follows answers, and what they are refused with
pub mod AnswerLaws
