mod SetupLemmas
mod ControlLemmas
