pub mod Rx
pub mod Reading
