pub mod Setup
pub mod Requests
pub mod Control
pub mod Notes
