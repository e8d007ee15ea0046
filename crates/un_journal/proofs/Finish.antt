-- What a stop, the drain and the last step leave.
pub mod AfterStop
pub mod DoneIsFinal
pub mod Drain
pub mod DrainRounds
pub mod Finished
pub mod NothingLost
pub mod SettledLast
