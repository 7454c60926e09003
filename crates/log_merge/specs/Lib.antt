pub mod Closing
pub mod Leaves
pub mod Merging
pub mod Tiles
