mod Parts
mod LaneCounts
mod Feeds
mod Examples
