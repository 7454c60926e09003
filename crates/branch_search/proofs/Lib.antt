pub mod CycleLaws
pub mod FitLaws
pub mod FloorLaws
pub mod ViewLaws
mod RoomLaws
