-- What a path keeps for the phase of its link, and what its calls leave as it was.
use Rattle.std.specs.Prelude.{◌≡◌, ℕ, ◌-◌, Bool, true, false, List, [], ◌∷◌, ◌++◌, drop, Option, None}
use Rattle.un_frame.specs.declared.params.Lane.{Lane}
use Rattle.un_frame.specs.Lanes.{outward_only}
use Rattle.un_req.specs.Request.{Buffer}
use Rattle.un_endpoint.specs.declared.record.FlightRecord.{FlightRecord}
use Rattle.un_endpoint.specs.Bus.{Bus}
use Rattle.un_endpoint.specs.Ends.{Transmitter}
use Rattle.un_endpoint.specs.EndOutcomes.{with_frame}
use Rattle.un_journal.specs.declared.actions.Answer.{Answer}
use Rattle.un_journal.specs.declared.lines.Line.{Line}
use Rattle.un_journal.specs.History.{Entry, History, cover}
use Rattle.un_journal.specs.Log.{Log}
use Rattle.un_lane.specs.Way.{Way, lane_lines}

-- whether made transfers are deferred: those of a sleeping link's outward lane
abbrev pub defers : Lane → Bool → Bool
defers lane asleep = outward_only lane asleep

-- while transfers are deferred nothing is queued and nothing flies; at any other time nothing is deferred
pub record AreApart (is_deferring : Bool) (deferred queue : List Buffer) (flight : Option FlightRecord) : Type 0 where
  pub none_queued : is_deferring ≡ true → (queue ≡ []) × (flight ≡ None)
  pub none_deferred : is_deferring ≡ false → deferred ≡ []

-- the path agrees with whether the link sleeps
abbrev pub Agrees : Bool → Way → Type 0
Agrees asleep way = AreApart (defers way.lane asleep) way.tx.deferred way.bus.queue way.bus.flight

-- the line of the next transfer, made of this request
abbrev pub made_of : Way → Buffer → Entry
made_of way request = (Line.Made way.lane way.made request.from request.to, request.bytes)

-- where a made transfer goes: into the deferred list, or into the queue
abbrev pub IsSent : Bool → Transmitter → Transmitter → Bus → Bus → Buffer → Type 0
IsSent true old new bus bus' request = (new ≡ record old { deferred = old.deferred ++ request ∷ [] }) × (bus' ≡ bus)
IsSent false old new bus bus' request = (new ≡ old) × (bus' ≡ record bus { queue = bus.queue ++ request ∷ [] })

-- What a call that builds nothing leaves as it was: the lane, the parameters and the built frames. The path still agrees with the
-- phase.
pub record Leaves (old new : Way) : Type 0 where
  pub lane_is : new.lane ≡ old.lane
  pub params_are : new.tx.params ≡ old.tx.params
  pub frames_are : new.tx.builder.frames ≡ old.tx.builder.frames
  pub agrees : (asleep : Bool) → Agrees asleep old → Agrees asleep new

-- the frames that may be built after an offer: the new one is there where the offer was taken
abbrev pub offered : Transmitter → List ℕ → Answer → List (List ℕ)
offered t frame Answer.Did = with_frame t frame
offered t frame answer = t.builder.frames

-- What a call that builds leaves: the lane and the parameters as they were, and of these frames those that are in no transfer. g and
-- g' are the lane's lines before and after it.
pub record Builds (asleep : Bool) (old new : Way) (frames : List (List ℕ)) (g g' : History) : Type 0 where
  pub lane_is : new.lane ≡ old.lane
  pub params_are : new.tx.params ≡ old.tx.params
  pub frames_are : new.tx.builder.frames ≡ drop (cover g' - cover g) frames
  pub agrees : Agrees asleep new

-- the same, of the lines of two journals
abbrev pub BuildsIn : Bool → List (List ℕ) → Log → Log → Way → Way → Type 0
BuildsIn asleep frames log log' old new = Builds asleep old new frames (lane_lines old log) (lane_lines new log')

-- what dropping leaves: nothing deferred and nothing built, and the endpoint as it was
pub record IsDropped (old new : Way) : Type 0 where
  pub lane_is : new.lane ≡ old.lane
  pub params_are : new.tx.params ≡ old.tx.params
  pub none_built : new.tx.builder.frames ≡ []
  pub none_deferred : new.tx.deferred ≡ []
  pub bus_is : new.bus ≡ old.bus
