mod Exchanged
pub mod Agrees
