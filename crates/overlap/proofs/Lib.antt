-- the test decides it
pub mod OverlapLaws
