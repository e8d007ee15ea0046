-- A link as plain data, and what holds of each link at every moment.
use Rattle.std.specs.Prelude.{◌≡◌, ℕ, ◌+◌, ◌<◌, ◌^◌, ◌++◌, List, [], ◌∷◌, length, reverse, Option, Some, None}
use Rattle.un_frame.specs.declared.params.Lane.{Lane}
use Rattle.un_frame.specs.declared.params.Lane.TheVariants.{Outward, Inward}
use Rattle.un_frame.specs.declared.kinds.Phase.{Phase}
use Rattle.un_frame.specs.Params.{AreInRange, Agree}
use Rattle.un_endpoint.specs.declared.record.FlightRecord.{FlightRecord}
use Rattle.un_journal.specs.declared.actions.Answer.{Answer}
use Rattle.un_journal.specs.declared.machine.FlightKey.{FlightKey}
use Rattle.un_journal.specs.Script.{Script}
use Rattle.un_journal.specs.History.{History, past, made_bytes}
use Rattle.un_journal.specs.Log.{Log}
use Rattle.un_journal.specs.Bytes.{bytes_in, byte_bound}
use Rattle.un_journal.specs.Lookup.{phase_of, controls_done}
use Rattle.un_journal.specs.LaneSteps.{Outcome, lines_in, answer_in}
use Rattle.un_journal.specs.Drain.{line_bound}
use Rattle.un_journal.specs.Fits.{Legal}
use Rattle.un_lane.specs.Way.{Way}
use Rattle.un_lane.specs.Answered.{UnlessDid}
use Rattle.un_script.specs.declared.cursors.Cursors.{Cursors}
use Rattle.un_script.specs.Cursors.{AreRead}
use Rattle.un_link.specs.Keeps.{Keeps}

-- a script, its history with the room that is left, both lanes' paths, how far the feeds are read, the phase, and how many controls are done
pub record Link : Type 0 where
  pub script : Script
  pub log : Log
  pub out : Way
  pub inward : Way
  pub out_read : Cursors
  pub in_read : Cursors
  pub phase : Phase
  pub next_control : ℕ

-- the history is legal, and there is room for all lines that may yet come
pub record IsLogged (script : Script) (log : Log) : Type 0 where
  pub legal : Legal script log.history
  pub in_range : AreInRange script.params
  pub agree : Agree script.params
  pub lines_left : log.spare_lines + length log.history ≡ line_bound script
  pub bytes_left : log.spare_bytes + bytes_in log.history ≡ byte_bound script
  pub few : line_bound script < 2 ^ 63

-- all that a link keeps is what its history says
pub record Holds (link : Link) : Type 0 where
  pub logged : IsLogged link.script link.log
  pub out_lane : link.out.lane ≡ Outward
  pub in_lane : link.inward.lane ≡ Inward
  pub out_keeps : Keeps link.script link.phase link.out (past Outward link.log.history)
  pub in_keeps : Keeps link.script link.phase link.inward (past Inward link.log.history)
  pub out_read_is : AreRead link.out_read (past Outward link.log.history)
  pub in_read_is : AreRead link.in_read (past Inward link.log.history)
  pub phase_is : link.phase ≡ phase_of link.script link.log.history
  pub next_control_is : link.next_control ≡ controls_done (reverse link.log.history)

-- FLIGHTS

-- the flight of a lane as un_journal's machines see it; its bytes are those of its made line
abbrev pub flight_in : Lane → History → FlightRecord → FlightKey
flight_in lane g f = record {
  transfer = record { lane = lane; serial = f.serial; from = f.from; to = f.to; bytes = made_bytes g f.serial };
  tx = f.tx;
  tx_capacity = f.tx_capacity;
  rx = f.rx;
  rx_capacity = f.rx_capacity;
}

abbrev pub lane_flights : Lane → History → Option FlightRecord → List FlightKey
lane_flights lane g None = []
lane_flights lane g (Some f) = flight_in lane g f ∷ []

-- the flights that are out of a link
abbrev pub flights_of : Link → List FlightKey
flights_of link =
    lane_flights Outward (past Outward link.log.history) link.out.bus.flight
    ++ lane_flights Inward (past Inward link.log.history) link.inward.bus.flight

-- STEPS

-- a call adds the lines of a step and answers as it says; the script and the flights that are out stay, and where it doesn't answer `Did` the whole link
pub record Steps (old new : Link) (outcome : Outcome) (answer : Answer) : Type 0 where
  pub script_is : new.script ≡ old.script
  pub history_is : new.log.history ≡ old.log.history ++ lines_in outcome
  pub answers : answer ≡ answer_in outcome
  pub flights_are : flights_of new ≡ flights_of old
  pub unchanged : UnlessDid answer (new ≡ old)
