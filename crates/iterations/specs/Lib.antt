-- the memory's length, and ground 12
pub mod Memory
-- what 12 lets pass; no iteration changes the length
pub mod MemoryLaws
-- a table's statements in its store
pub mod Loaded
-- laws of it
pub mod LoadedLaws
-- what the code of statements asks
pub mod Runnable
-- of a loop's iteration it is known
pub mod RunnableLaws
