pub mod ColumnLaws
pub mod RunLaws
pub mod LeftLaws
pub mod GapLaws
pub mod PlaceLaws
pub mod ForbidLaws
pub mod GridLaws
