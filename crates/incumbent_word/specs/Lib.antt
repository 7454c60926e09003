pub mod Calls
pub mod Keys
pub mod Plays
pub mod Rule
pub mod Sharing
pub mod Sittings
pub mod Views
