-- what an exported function leaves in the answer's numbers
pub mod Answers
-- what code answers, as it is told
pub mod Results
-- the four numbers of an answer, by an example
pub mod Example
