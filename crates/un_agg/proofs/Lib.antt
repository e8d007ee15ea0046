mod BlockLemmas
mod Adding
mod HostLemmas
