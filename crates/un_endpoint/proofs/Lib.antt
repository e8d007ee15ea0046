mod Kept
mod Counts
pub mod Copies
pub mod Lifts
pub mod Moves
pub mod Starts
