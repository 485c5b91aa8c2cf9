-- what the numbers of an answer say
pub mod Numbers
