pub mod Booleans
pub mod Copies
pub mod Lists
pub mod Numbers
