-- the comparison of lengths, and the copies
pub mod Walks
-- the answers of joining
pub mod Answers
