pub mod Citations
pub mod Steps
pub mod Logs
pub mod Spelling
pub mod Reading
