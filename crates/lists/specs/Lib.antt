-- rows of lists: length, the n-th
pub mod Joined
-- the orders of a fused and of a peeled list
pub mod Lists
-- an example of both
pub mod ListsExample
-- how many iterations have a smaller sum
pub mod Below
-- the lists of all processors
pub mod Fusion
-- block ends that leave each shift and peel room
pub mod Wide
-- each iteration in one list, once: what that says
pub mod EachOnce
