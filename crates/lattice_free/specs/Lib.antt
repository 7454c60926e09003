pub mod Order
pub mod Runs
pub mod Gaps
pub mod Left
pub mod Clear
pub mod FreePositions
pub mod Grid
