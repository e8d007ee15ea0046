mod Frames
mod Working
mod Unchanged
mod Flying
mod Holding
mod Offers
mod Rooms
mod Fresh
mod Resting
pub mod Agreeing
pub mod Draining
mod Takings
mod Flights
mod BothLanes
mod Ordering
mod Controlling
mod Settling
mod Lawfully
mod Refusing
mod Places
