-- Parameters stay in their ranges with each line that names one.
use Rattle.std.proofs.Common.{◌≡◌, ℕ, ◌≤◌, true, ◌&&◌, nat_le, arith}
use Rattle.std.proofs.lemmas.Bool.{and_parts}
use Rattle.std.proofs.lemmas.Bool.Decides.{nat_tests}
use Rattle.un_facts.specs.Numbers.{is_between}
use Rattle.un_frame.specs.declared.params.Params.{Params}
use Rattle.un_frame.specs.Params.{AreInRange}
use Rattle.un_script.specs.declared.table.Parameter.{Parameter}
use Rattle.un_script.specs.declared.table.Parameter.TheVariants.{Segment, Packet, Block, Datagrams, Divisor, Remainder, Alignment}
use Rattle.un_script.specs.Table.{is_allowed, is_filter, is_pool_size, with_number}

pub both_ends : (low high n : ℕ) → is_between low high n ≡ true → (low ≤ n) × (n ≤ high)
both_ends low high n h = let p = and_parts (nat_le low n) (nat_le n high) h in (grind (arith, nat_tests, p.0), grind (arith, nat_tests, p.1))

pub number_in_range : (p : Params) (parameter : Parameter) (n : ℕ) → AreInRange p → is_allowed p.class parameter n ≡ true → AreInRange (with_number parameter n p)
number_in_range p Segment n h a = record { segment = both_ends _ _ n a; packet = h.packet; filter = h.filter; block = h.block; datagrams = h.datagrams; divisor = h.divisor; remainder = h.remainder; alignment = h.alignment; tx_out = h.tx_out; rx_out = h.rx_out; tx_in = h.tx_in; rx_in = h.rx_in }
number_in_range p Packet n h a = record { segment = h.segment; packet = a; filter = h.filter; block = h.block; datagrams = h.datagrams; divisor = h.divisor; remainder = h.remainder; alignment = h.alignment; tx_out = h.tx_out; rx_out = h.rx_out; tx_in = h.tx_in; rx_in = h.rx_in }
number_in_range p Block n h a = record { segment = h.segment; packet = h.packet; filter = h.filter; block = both_ends _ _ n a; datagrams = h.datagrams; divisor = h.divisor; remainder = h.remainder; alignment = h.alignment; tx_out = h.tx_out; rx_out = h.rx_out; tx_in = h.tx_in; rx_in = h.rx_in }
number_in_range p Datagrams n h a = record { segment = h.segment; packet = h.packet; filter = h.filter; block = h.block; datagrams = (both_ends _ _ n a).1; divisor = h.divisor; remainder = h.remainder; alignment = h.alignment; tx_out = h.tx_out; rx_out = h.rx_out; tx_in = h.tx_in; rx_in = h.rx_in }
number_in_range p Divisor n h a = record { segment = h.segment; packet = h.packet; filter = h.filter; block = h.block; datagrams = h.datagrams; divisor = both_ends _ _ n a; remainder = h.remainder; alignment = h.alignment; tx_out = h.tx_out; rx_out = h.rx_out; tx_in = h.tx_in; rx_in = h.rx_in }
number_in_range p Remainder n h a = record { segment = h.segment; packet = h.packet; filter = h.filter; block = h.block; datagrams = h.datagrams; divisor = h.divisor; remainder = (both_ends _ _ n a).1; alignment = h.alignment; tx_out = h.tx_out; rx_out = h.rx_out; tx_in = h.tx_in; rx_in = h.rx_in }
number_in_range p Alignment n h a = record { segment = h.segment; packet = h.packet; filter = h.filter; block = h.block; datagrams = h.datagrams; divisor = h.divisor; remainder = h.remainder; alignment = both_ends _ _ n a; tx_out = h.tx_out; rx_out = h.rx_out; tx_in = h.tx_in; rx_in = h.rx_in }

pub filter_in_range : (p : Params) (n : ℕ) → AreInRange p → is_filter n ≡ true → AreInRange (record p { filter = n })
filter_in_range p n h a = record { segment = h.segment; packet = h.packet; filter = (both_ends _ _ n a).1; block = h.block; datagrams = h.datagrams; divisor = h.divisor; remainder = h.remainder; alignment = h.alignment; tx_out = h.tx_out; rx_out = h.rx_out; tx_in = h.tx_in; rx_in = h.rx_in }

abbrev pub with_pools : Params → ℕ → ℕ → ℕ → ℕ → Params
with_pools p a b c d = record p { tx_out = a; rx_out = b; tx_in = c; rx_in = d }

pub pools_in_range : (p : Params) (a b c d : ℕ) → AreInRange p → (is_pool_size a && is_pool_size b && is_pool_size c && is_pool_size d) ≡ true → AreInRange (with_pools p a b c d)
pools_in_range p a b c d h sizes =
    let last = and_parts (is_pool_size a && is_pool_size b && is_pool_size c) (is_pool_size d) sizes in
    let third = and_parts (is_pool_size a && is_pool_size b) (is_pool_size c) last.0 in
    let two = and_parts (is_pool_size a) (is_pool_size b) third.0 in
    record { segment = h.segment; packet = h.packet; filter = h.filter; block = h.block; datagrams = h.datagrams; divisor = h.divisor; remainder = h.remainder; alignment = h.alignment; tx_out = both_ends 1 64 a two.0; rx_out = both_ends 1 64 b two.1; tx_in = both_ends 1 64 c third.1; rx_in = both_ends 1 64 d last.1 }
