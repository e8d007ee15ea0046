pub mod Held
pub mod Block
pub mod Building
pub mod Host
pub mod Gadget
