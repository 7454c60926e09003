pub mod Fronts
pub mod Hands
