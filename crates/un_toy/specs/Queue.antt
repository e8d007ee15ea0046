-- A queue by its number of items and its history, for tests of the turn.
use Rattle.std.specs.Prelude.{ℕ, ◌+◌, Bool, true, false, ◌&&◌, nat_lt, nat_le, List, [], ◌∷◌, if◌then◌else◌}
use Rattle.un_facts.specs.Numbers.{one_if}
use Rattle.un_frame.specs.declared.params.Lane.{Lane}
use Rattle.un_frame.specs.declared.params.Lane.TheVariants.{Outward, Inward}
use Rattle.un_journal.specs.declared.actions.Action.{Action}
use Rattle.un_journal.specs.declared.actions.Answer.{Answer}
use Rattle.un_journal.specs.declared.actions.Answer.TheVariants.{Did, Nothing}
use Rattle.un_journal.specs.declared.got.Got.{Got}
use Rattle.un_journal.specs.declared.got.Got.TheVariants.{Part, Not}
use Rattle.un_journal.specs.declared.lines.Line.{Line}
use Rattle.un_journal.specs.declared.machine.FlightKey.{FlightKey}
use Rattle.un_journal.specs.declared.machine.Transfer.{Transfer}
use Rattle.un_journal.specs.Flights.{total_of}
use Rattle.un_journal.specs.History.{Entry, History}

abbrev pub is_took : Line → Bool
is_took (Line.Took l s) = true
is_took line = false

abbrev pub is_flying : Line → Bool
is_flying (Line.Flying l k) = true
is_flying line = false

abbrev pub is_landed : Line → Bool
is_landed (Line.Landed l k) = true
is_landed line = false

-- how many lines of a kind there are
abbrev pub count_of : (Line → Bool) → History → ℕ
count_of kind h = total_of (λ (e : Entry). one_if (kind e.0)) h

abbrev pub took_in : History → ℕ
took_in h = count_of is_took h

abbrev pub flown_in : History → ℕ
flown_in h = count_of is_flying h

abbrev pub landed_in : History → ℕ
landed_in h = count_of is_landed h

-- an item as a transfer, and its flight
abbrev pub transfer : ℕ → Transfer
transfer serial = record { lane = Outward; serial = serial; from = serial; to = serial + 1; bytes = [] }

abbrev pub flight : ℕ → FlightKey
flight serial = record { transfer = transfer serial; tx = 0; tx_capacity = 0; rx = 0; rx_capacity = 0 }

-- where more have flown than landed, the first that hasn't landed is out
abbrev pub flights_of : ℕ → ℕ → List FlightKey
flights_of flown landed = if nat_lt landed flown then flight landed ∷ [] else []

-- an outward offer adds an item while there is room
abbrev pub answer_of : ℕ → History → Action → Answer
answer_of limit h (Action.Offer Outward s) = if nat_lt (took_in h) limit then Did else Nothing
answer_of limit h action = Nothing

abbrev pub lines_of : ℕ → History → Action → History
lines_of limit h (Action.Offer Outward s) = if nat_lt (took_in h) limit then (Line.Took Outward s, []) ∷ [] else []
lines_of limit h action = []

-- the next item flies where none does
abbrev pub can_take : History → Bool
can_take h = nat_lt (flown_in h) (took_in h) && nat_le (flown_in h) (landed_in h)

abbrev pub taken_of : History → Lane → Got Transfer
taken_of h Outward = if can_take h then Part (transfer (flown_in h)) else Not Nothing
taken_of h Inward = Not Nothing

abbrev pub taken_lines_of : History → Lane → History
taken_lines_of h Outward = if can_take h then (Line.Flying Outward (flown_in h), []) ∷ [] else []
taken_lines_of h Inward = []

abbrev pub landed_lines_of : Transfer → History
landed_lines_of t = (Line.Landed Outward t.serial, []) ∷ []

abbrev pub is_finished : ℕ → History → Bool
is_finished limit h = nat_le limit (landed_in h)
