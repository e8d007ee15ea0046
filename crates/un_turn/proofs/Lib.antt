pub mod Sums
pub mod Flights
mod Moves
mod Kept
mod Owners
