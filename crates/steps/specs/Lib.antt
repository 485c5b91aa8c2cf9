-- what the code of a step is lent
pub mod Lent
-- laws of that: a plan that is laid out is so lent
pub mod Laid
-- a step of a plan that is laid out, whatever number it names
pub mod Called
-- what a step leaves
pub mod Leaves
-- what a refused call hands back
pub mod Refusing
