pub mod Adding
mod Doing
mod Contents
mod Counting
mod Placing
mod Serials
mod Trying
mod Finishing
mod Taking
mod Landing
mod Retrying
mod Opening
mod Giving
pub mod Making
mod Offering
mod Sending
mod Closing
mod Building
mod Starting
mod Marking
mod Recalling
mod Stopping
mod Cutting
mod Dropping
mod Looping
mod Resuming
pub mod Lookups
mod Stillness
mod Numbering
pub mod LinkSteps
