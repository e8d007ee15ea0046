pub mod Cursor
pub mod Datagrams
pub mod Formats
pub mod Walk
pub mod Writer
