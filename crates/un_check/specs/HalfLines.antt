-- What one more line does to what is kept of a lane, and what each step of the lane would write by it.
use Rattle.std.specs.Prelude.{ℕ, List, [], ◌∷◌, ◌++◌, length, Option, Some, None, unwrap_or, slice_get, if◌then◌else◌}
use Rattle.std.specs.Option.{option_map}
use Rattle.un_frame.specs.declared.params.Lane.{Lane}
use Rattle.un_frame.specs.declared.kinds.Phase.{Phase}
use Rattle.un_frame.specs.declared.kinds.Verdict.{Verdict}
use Rattle.un_frame.specs.Verdict.{verdict_of}
use Rattle.un_journal.specs.declared.lines.Line.{Line}
use Rattle.un_journal.specs.declared.lines.Line.TheVariants.{Took, Refused, Opened, Gave}
use Rattle.un_journal.specs.Script.{Script, Frame, frames_of, planned}
use Rattle.un_journal.specs.History.{History}
use Rattle.un_journal.specs.Lookup.{works, is_awake, is_asleep, is_stopping, is_deferring}
use Rattle.un_journal.specs.LaneSteps.{bare}
use Rattle.un_journal.specs.Step.{Work, Offer, Tick, Take, Land, TxDone, RxDone, Deliver, Refill, Unlink, ClearHalt, Settle}
use Rattle.un_script.specs.declared.cursors.Cursors.{Cursors}
use Rattle.un_script.specs.Cursors.{cursor_at, advanced}
use Rattle.un_check.specs.declared.source.Source.{Source}
use Rattle.un_check.specs.Half.{Half, frame_at, home}
use Rattle.un_check.specs.Transfers.{Transfers, span_in}
use Rattle.un_check.specs.BuildingLines as building
use Rattle.un_check.specs.TransferLines as transfers
use Rattle.un_check.specs.ReceivingLines as receiving

-- the first frame of a sender's feed
abbrev pub head_of : Script → Lane → Half → ℕ → Option Frame
head_of script lane half sender = slice_get (frames_of script lane sender) (cursor_at half.read sender)

-- what a line needs to be the lane's next, as far as no script and no phase is in it
pub record GoesOn (line : Line) (half : Half) : Type 0 where
  pub of_building : building.GoesOn line half.building
  pub of_transfers : transfers.GoesOn line half.transfers
  pub of_receiving : receiving.GoesOn line half.receiving

-- ONE MORE LINE

-- the span of the transfer that an opened line names
abbrev pub span_told : Line → Transfers → ℕ × ℕ
span_told (Opened l k) t = unwrap_or (span_in (slice_get t.all k)) (0, 0)
span_told line t = (0, 0)

abbrev pub read_after : Line → Cursors → Cursors
read_after (Took l s) read = advanced s read
read_after (Refused l s why) read = advanced s read
read_after line read = read

abbrev pub accepted_after : Line → Half → List Source
accepted_after (Took l s) half = half.accepted ++ record { sender = s; index = cursor_at half.read s } ∷ []
accepted_after line half = half.accepted

-- the frame is the one that a took line accepts
abbrev pub after : Frame → Line → Half → Half
after frame line half = record {
  building = building.after frame line half.building;
  transfers = transfers.after line half.transfers;
  receiving = receiving.after half.transfers.is_out (span_told line half.transfers) line half.receiving;
  read = read_after line half.read;
  accepted = accepted_after line half;
}

-- WHAT EACH STEP WOULD WRITE

abbrev pub one : Option Line → Option History
one said = option_map (λ line. bare line ∷ []) said

-- the frame of an offer, judged
abbrev pub judged : Lane → ℕ → Frame → Half → Verdict → Option History
judged lane sender frame half Verdict.Take = building.offer_lines sender (length half.transfers.all) (home half) frame half.building
judged lane sender frame half why = Some (bare (Refused lane sender why) ∷ [])

abbrev pub offered : Script → Phase → Lane → ℕ → Half → Option Frame → Option History
offered script phase lane sender half None = None
offered script phase lane sender half (Some frame) =
    if works phase then judged lane sender frame half (verdict_of script.params lane frame) else None

-- a datagram of the transfer that is read, as it was accepted
abbrev pub given : Script → Lane → Half → Option (ℕ × ℕ) → Option History
given script lane half None = None
given script lane half (Some d) = Some ((Gave lane d.1, unwrap_or (option_map (frame_at script lane) (slice_get half.accepted d.1)) []) ∷ [])

-- the lines of a step of this lane, in a phase; cause is the index of the last control that was done
abbrev pub said : Script → Phase → Lane → ℕ → Half → Work → Option History
said script phase lane cause half (Offer l sender) = offered script phase lane sender half (head_of script lane half sender)
said script phase lane cause half (Tick l) = building.tick_lines (length half.transfers.all) (home half) half.building
said script phase lane cause half (Take l) =
    one (transfers.take_line (is_asleep phase) (is_deferring phase lane) lane half.receiving.posted half.transfers)
said script phase lane cause half (Land l) = one (transfers.land_line lane (planned script lane half.transfers.over) half.transfers)
said script phase lane cause half (TxDone l) = one (transfers.tx_done_line lane half.transfers)
said script phase lane cause half (RxDone l) = one (receiving.rx_done_line lane half.receiving half.receiving.reading)
said script phase lane cause half (Deliver l) = given script lane half (receiving.deliver_number half.receiving.reading)
said script phase lane cause half (Refill l) = if is_awake phase then one (receiving.post_line lane half.receiving) else None
said script phase lane cause half (Unlink l) =
    if is_stopping phase then one (transfers.unlink_line (is_deferring phase lane) lane cause half.receiving.posted half.transfers) else None
said script phase lane cause half (ClearHalt l) = if is_awake phase then one (transfers.clear_line lane half.transfers) else None
said script phase lane cause half Settle = None
