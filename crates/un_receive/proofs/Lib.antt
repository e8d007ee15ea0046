mod EndLemmas
mod OpenLemmas
mod RxLemmas
