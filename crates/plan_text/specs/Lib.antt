pub mod Texts
pub mod Faults
pub mod Rows
pub mod Told
pub mod Reading
