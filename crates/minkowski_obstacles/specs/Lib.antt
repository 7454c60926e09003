pub mod Sums
pub mod Merged
pub mod Pairs
pub mod Intervals
pub mod Obstacles
