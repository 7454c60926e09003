pub mod Calendars
pub mod Counts
pub mod Faults
