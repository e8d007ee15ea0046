pub mod Words
pub mod Puts
