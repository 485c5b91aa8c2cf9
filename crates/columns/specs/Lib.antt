-- references in columns
pub mod Columns
-- laws of them
pub mod ColumnLaws
