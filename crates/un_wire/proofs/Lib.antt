mod CountLemmas
pub mod CursorLemmas
mod WriteLemmas
pub mod OpenSteps
mod SpanLemmas
