-- What a link needs of its history: lines on top of older ones, the lines of one lane and of a control, room for a step, the
-- rounds of the drain.
pub use Rattle.un_journal.proofs.Bounds.StepRoom.{act_has_room, act_has_byte_room}
pub use Rattle.un_journal.proofs.Bytes.TransferBytes.{count_datagrams}
pub use Rattle.un_journal.proofs.Finish.Drain.{drain_extends, run_extends, no_longer, step_idle}
pub use Rattle.un_journal.proofs.Finish.DrainRounds.{lane_still, quiet_parts, drain_after_round, drain_after_control, drain_at_end}
pub use Rattle.un_journal.proofs.Finish.NothingLost.{take_one}
pub use Rattle.un_journal.proofs.Lanes.Attempts.{legal_attempts}
pub use Rattle.un_journal.proofs.Lanes.MayFollow.{fresh}
pub use Rattle.un_journal.proofs.Lanes.Status.{status_of, is_aloft}
pub use Rattle.un_journal.proofs.Lists.Counting.{past_short, bytes_append}
pub use Rattle.un_journal.proofs.Lists.NewestFirst.{onto, past_own, past_onto, past_more, newest, onto_append, AllOf, filter_of, filter_append, past_other, sound_below}
pub use Rattle.un_journal.proofs.Lists.Passing.{those_none}
pub use Rattle.un_journal.proofs.Steps.OrderLines.{onto_marked, onto_recalled, phase_kept, controls_kept, onto_stop, order_part, order_filter, order_still, stop_part, cut_of, marked_of, recalled_of, dropped_of}
pub use Rattle.un_journal.proofs.Steps.OwnLines.{lane_of, work_own}
pub use Rattle.un_journal.proofs.Steps.StaySound.{own_past}
