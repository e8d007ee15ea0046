pub mod Way
pub mod Stands
pub mod Phases
pub mod Answered
pub mod Calls
pub mod Fresh
pub mod Controls
pub mod Still
