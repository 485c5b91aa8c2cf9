-- grounds 1 to 9, each given only where it holds; what 9 names; an accepted table meets none
pub mod Nine
