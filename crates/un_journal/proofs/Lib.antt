pub mod Theorems
pub mod ForLane
pub mod ForLink
pub mod ForReader
mod Lists
mod Lanes
mod Steps
mod Bytes
mod Bounds
mod Finish
mod Text
mod StoredEntries
mod SameFlight
mod Examples
