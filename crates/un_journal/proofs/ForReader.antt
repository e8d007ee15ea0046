-- What one needs who reads a history line by line: by which step it goes on, and what each step does to a lane's lines.
pub use Rattle.un_journal.proofs.Bytes.TransferBytes.{slice_append, take_whole, count_datagrams, Kept, Formed, legal_formed, frames_more, good_length}
pub use Rattle.un_journal.proofs.Bytes.Transfers.{FramesFit, fit_more, lengths_append}
pub use Rattle.un_journal.proofs.Bounds.Parameters.{wire_holds, have_pools}
pub use Rattle.un_journal.proofs.Finish.DoneIsFinal.{quiet_done, done_quiet}
pub use Rattle.un_journal.proofs.Finish.Drain.{fits_some, no_fit, sends_head, four_feeds, land_idle}
pub use Rattle.un_journal.proofs.Lanes.Attempts.{attempts_most, legal_attempts}
pub use Rattle.un_journal.proofs.Lanes.MayFollow.{add_line, add_lines, fresh, none_flies, of_lane}
pub use Rattle.un_journal.proofs.Lanes.PoolSums.{lane_ruled, home_sums, legal_sums}
pub use Rattle.un_journal.proofs.Lists.NewestFirst.{onto, past_own, past_onto, past_more, past_other, newest, onto_append, reverse_onto, AllOf, filter_of, filter_append, sound_below}
pub use Rattle.un_journal.proofs.Lists.Passing.{those_first, those_none, those_same, those_first_is, first_none}
pub use Rattle.un_journal.proofs.Steps.LineRules.{legal_ruled}
pub use Rattle.un_journal.proofs.Steps.OneStep.{flight_first, fits_outcome, one_step, pending_built}
pub use Rattle.un_journal.proofs.Steps.OneWay.{line_fixes, goes_no_further, NextStep, next_step}
pub use Rattle.un_journal.proofs.Steps.OrderLines.{phase_kept, controls_kept, still_control, still_phase, controls_onto, onto_cut, onto_marked, onto_recalled, onto_dropped, cut_of, marked_of, recalled_of, dropped_of, cut_still, marked_still, recalled_still, dropped_still, order_still, order_filter, made_still, made_of}
pub use Rattle.un_journal.proofs.Steps.OutcomesFit.{outcome_fits, writes_same}
pub use Rattle.un_journal.proofs.Steps.OwnLines.{lane_of, work_own}
pub use Rattle.un_journal.proofs.Steps.StayLegal.{legal_act}
pub use Rattle.un_journal.proofs.Steps.StaySound.{own_past, phase_more, legal_good, Good}
