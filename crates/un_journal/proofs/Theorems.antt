-- The laws of legal histories, as other crates cite them: where a law is the contract of a public call, this is what proves it.
pub use Rattle.un_journal.proofs.Bounds.LineBound.{legal_bound}
pub use Rattle.un_journal.proofs.Bounds.Parameters.{wire_holds, have_pools}
pub use Rattle.un_journal.proofs.Bytes.Spelled.{licensed_at, settled_at}
pub use Rattle.un_journal.proofs.Bytes.TransferBytes.{legal_formed}
pub use Rattle.un_journal.proofs.Finish.DoneIsFinal.{quiet_done, cut_off, given_prefix}
pub use Rattle.un_journal.proofs.Finish.Drain.{drain_done}
pub use Rattle.un_journal.proofs.Finish.Finished.{done_finished}
pub use Rattle.un_journal.proofs.Finish.NothingLost.{nothing_lost, plain_line, Whole}
pub use Rattle.un_journal.proofs.Lanes.CensusCounts.{adds_up, names_place, is_nowhere}
pub use Rattle.un_journal.proofs.Lanes.GivenOrder.{given_rises, given_taken}
pub use Rattle.un_journal.proofs.Lanes.Places.{partition}
pub use Rattle.un_journal.proofs.Lanes.PoolSums.{away_some, away_none, lane_ruled}
pub use Rattle.un_journal.proofs.SameFlight.{same_flight-is, same_flight-refl}
pub use Rattle.un_journal.proofs.Steps.Licences.{legal_licensed}
pub use Rattle.un_journal.proofs.Steps.LineRules.{legal_ruled}
pub use Rattle.un_journal.proofs.Steps.OutcomesFit.{outcome_fits}
pub use Rattle.un_journal.proofs.Steps.StayLegal.{legal_act}
pub use Rattle.un_journal.proofs.Steps.StaySound.{legal_good}
pub use Rattle.un_journal.proofs.Text.OneText.{traces}
