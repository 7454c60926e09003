pub mod Fits
pub mod Floors
pub mod Jumping
pub mod Segments
pub mod Views
