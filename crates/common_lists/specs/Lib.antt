pub mod Each
pub mod Firsts
