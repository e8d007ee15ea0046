pub mod Walk
pub mod Items
pub mod Frames
pub mod Transfer
