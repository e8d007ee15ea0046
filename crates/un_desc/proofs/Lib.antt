mod WalkLemmas
mod PartLemmas
pub mod Built
