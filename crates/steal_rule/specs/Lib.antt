pub mod Deques
pub mod Laws
pub mod Places
pub mod Plays
pub mod Rule
pub mod Views
