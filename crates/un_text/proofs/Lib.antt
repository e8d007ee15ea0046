pub mod Putting
mod Hexes
mod Pairing
pub mod TextCuts
pub mod ReadNumbers
pub mod ReadWords
pub mod ReadFields
