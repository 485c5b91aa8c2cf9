-- plans by hand
pub mod Hands
-- calls with a plan by hand
pub mod HandCalls
