pub mod FormatLemmas
mod WriterLemmas
