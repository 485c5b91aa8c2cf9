-- how a store to the array of waiting values shows in the list of those that wait
pub mod Tops
-- the items of a body, one by one
pub mod Work
