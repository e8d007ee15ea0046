-- The transfers that callers see, by the fields.
use Rattle.un_check.specs.declared.transfers.Transfers.TheInside.{Inside}
use Rattle.un_check.specs.Transfers.{Transfers}

abbrev pub transfers_in : Inside → Transfers
transfers_in i = record { all = i.all.items; over = i.over; is_out = i.is_out; tries = i.tries; home = i.home; marked = i.marked; is_halted = i.is_halted }
