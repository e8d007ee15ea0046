-- What the lines of one sound lane say, by cases on its newest line.
pub mod Attempts
pub mod CensusCounts
pub mod Delivery
pub mod GivenOrder
pub mod MayFollow
pub mod Owners
pub mod Places
pub mod PoolSums
pub mod SerialOrder
pub mod Somewhere
pub mod Status
