-- The bytes that lines carry.
pub mod Spelled
pub mod TransferBytes
pub mod Transfers
