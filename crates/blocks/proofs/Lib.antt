-- how many lines blocks have, and that they have all
pub mod BlockLaws
-- blocks on whole lines: they follow on each other and cover all; ground 11; and lines of one index
pub mod LineLaws
-- laws of parts
pub mod PartLaws
