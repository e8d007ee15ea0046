pub mod Held
pub mod Codings
pub mod Places
pub mod Cursors
pub mod Left
pub mod Laws
pub mod Spans
