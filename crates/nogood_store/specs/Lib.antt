pub mod Hits
pub mod Containers
pub mod Waits
pub mod Places
pub mod Among
pub mod Steps
pub mod Entered
pub mod Stores
