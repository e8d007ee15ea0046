pub mod Configuration
pub mod Walk
pub mod Reading
