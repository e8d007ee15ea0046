mod Cuts
mod Decoded
mod Heard
mod Ranges
mod States
mod Readiness
mod LawLemmas
pub mod Loads
mod Plans
pub mod CursorLemmas
