mod TxLemmas
