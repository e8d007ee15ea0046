pub mod Exchanges
pub mod Agreement
