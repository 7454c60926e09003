pub mod Calls
pub mod Desk
pub mod MemoryDesk
pub mod Quiet
pub mod QuietDesk
pub mod RealDesk
