mod Steps
mod FrameSteps
mod Reading
