-- What a lane needs of its lines: what the look-ups of a sound lane say of each other, and how they change by a line.
pub use Rattle.un_journal.proofs.Bytes.TransferBytes.{count_datagrams, take_whole}
pub use Rattle.un_journal.proofs.Finish.DrainRounds.{lane_still}
pub use Rattle.un_journal.proofs.Lanes.Attempts.{attempts_most, untried, unmade_untried}
pub use Rattle.un_journal.proofs.Lanes.CensusCounts.{occurrences_append, occurrences_numbers, occurrences_row}
pub use Rattle.un_journal.proofs.Lanes.Delivery.{left_here, delivered_more, current_none, current_stays}
pub use Rattle.un_journal.proofs.Lanes.GivenOrder.{in_turn, top_below, top, landed_below}
pub use Rattle.un_journal.proofs.Lanes.MayFollow.{fresh, owns_span, left_is, arrived_from, next_number_from, next_from, quiet_grounded}
pub use Rattle.un_journal.proofs.Lanes.Owners.{given_from, opened_landed}
pub use Rattle.un_journal.proofs.Lanes.PoolSums.{ended_is, ended_below, returned_ends, flying_made}
pub use Rattle.un_journal.proofs.Lanes.SerialOrder.{is_over, in_order, next_is, flight_is}
pub use Rattle.un_journal.proofs.Lanes.Status.{Quiet, status, status_of, is_aloft, is_arrived, is_faulted, is_severed, NoneEnded, aloft_only}
pub use Rattle.un_journal.proofs.Lists.Counting.{bytes_append, past_short, taken_short, made_short}
pub use Rattle.un_journal.proofs.Lists.NewestFirst.{onto, AllOf, past_own}
pub use Rattle.un_journal.proofs.Lists.Passing.{those_first, those_none, those_rest, those_first_is, those_same}
pub use Rattle.un_journal.proofs.Steps.StaySound.{own_past}
