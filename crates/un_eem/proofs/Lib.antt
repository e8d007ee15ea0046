mod Steps
mod Reading
mod Lending
mod FrameSteps
mod PlaceSteps
