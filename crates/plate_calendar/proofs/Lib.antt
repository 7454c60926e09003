pub mod DayLaws
pub mod CountLaws
pub mod PickedLaws
pub mod ReadLaws
pub mod FaultLaws
mod Rows
