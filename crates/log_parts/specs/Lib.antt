pub mod Picked
pub mod United
