-- What one more line does to what a lane builds, and what an offer and a tick would write, by what is kept of it.
use Rattle.std.specs.Prelude.{◌≡◌, ℕ, ◌+◌, ◌-◌, ◌<◌, ◌≤◌, Bool, true, false, not, ◌&&◌, ◌==◌, nat_lt, nat_le, List, [], ◌∷◌, ◌++◌, length, take, drop, Option, Some, None, is_some, if◌then◌else◌}
use Rattle.un_facts.specs.Lists.{is_empty}
use Rattle.un_frame.specs.declared.params.TheConstants.{TIMER_TICKS}
use Rattle.un_frame.specs.declared.params.Lane.{Lane}
use Rattle.un_frame.specs.declared.params.Lane.TheVariants.{Outward, Inward}
use Rattle.un_frame.specs.Cut.{closed_span}
use Rattle.un_frame.specs.Wire.{form}
use Rattle.un_journal.specs.declared.lines.Line.{Line}
use Rattle.un_journal.specs.declared.lines.Line.TheVariants.{Took, Made, Waited, Dropped}
use Rattle.un_journal.specs.Script.{Script, Frame}
use Rattle.un_journal.specs.History.{Entry, History}
use Rattle.un_journal.specs.Lookup.{feed_head}
use Rattle.un_journal.specs.LaneSteps.{bare}
use Rattle.un_check.specs.Building.{Building, end, open_in, is_open}

-- the built frames with one more
abbrev pub with_frame : Frame → Building → List Frame
with_frame frame b = b.frames ++ frame ∷ []

-- an open outward block waits anew after its first and its second frame
abbrev pub pending_with : Lane → Building → ℕ
pending_with Outward b = if not (open_in Outward b) then 0 else (if nat_le (length b.frames) 2 then TIMER_TICKS else b.pending)
pending_with Inward b = 0

-- a frame is accepted
abbrev pub accepted : Frame → Building → Building
accepted frame b = record b { frames = with_frame frame b; is_fresh = true }

abbrev pub took : Frame → Building → Building
took frame b = record (accepted frame b) { pending = pending_with b.lane (accepted frame b) }

-- the frames up to a number are in a transfer, or dropped
abbrev pub covered : ℕ → Building → Building
covered to b = record b { cover = to; frames = drop (to - b.cover) b.frames; pending = 0 }

abbrev pub made : ℕ → Building → Building
made to b = record (covered to b) { is_fresh = false }

-- what is told of a line: the frame that a took line accepts
abbrev pub IsTold : Script → Lane → Frame → Line → History → Type 0
IsTold script lane frame (Took l s) g = feed_head script lane g s ≡ Some frame
IsTold script lane frame line g = Unit {0}

-- what a line needs to be the next of what is built: a made span begins where the last one ended, and leaves one frame at most outward
pub record IsSpan (from to : ℕ) (b : Building) : Type 0 where
  pub begins : from ≡ b.cover
  pub is_some : from < to
  pub is_accepted : to ≤ end b
  pub leaves : b.lane ≡ Outward → end b ≤ to + 1

abbrev pub GoesOn : Line → Building → Type 0
GoesOn (Made l k from to) b = IsSpan from to b
GoesOn (Dropped l from to c) b = to ≡ end b
GoesOn (Waited l) b = 0 < b.pending
GoesOn line b = Unit {0}

-- what is built after a line
abbrev pub after : Frame → Line → Building → Building
after frame (Took l s) b = took frame b
after frame (Made l k from to) b = made to b
after frame (Dropped l from to c) b = covered to b
after frame (Waited l) b = record b { pending = b.pending - 1 }
after frame line b = b

-- WHAT STEPS WRITE

-- the span that one more frame closes, if it closes one
abbrev pub closes : Frame → Building → Option (ℕ × ℕ)
closes frame b = closed_span b.params b.lane (with_frame frame b) b.cover (end b)

-- the made line of so many-th transfer, of frames that begin with the span's first
abbrev pub made_entry : Lane → ℕ → List Frame → Building → ℕ × ℕ → Entry
made_entry lane serial frames b span = (Made lane serial span.0 span.1, form b.params serial (take (span.1 - span.0) frames))

abbrev pub made_entries : Lane → ℕ → List Frame → Building → Option (ℕ × ℕ) → History
made_entries lane serial frames b None = []
made_entries lane serial frames b (Some span) = made_entry lane serial frames b span ∷ []

-- whether an offer that closes this span, and a tick that closes all, need a transmit request at home
abbrev pub offer_needs : Lane → Building → Option (ℕ × ℕ) → Bool
offer_needs Outward b closed = not (is_open b)
offer_needs Inward b closed = is_some closed

abbrev pub tick_needs : Lane → Building → Bool
tick_needs Outward b = not (is_open b)
tick_needs Inward b = true

-- the lines of an offer of a good frame, where so many transfers were made and so many transmit requests are at home
abbrev pub offer_lines : ℕ → ℕ → ℕ → Frame → Building → Option History
offer_lines sender serial home frame b =
    if offer_needs b.lane b (closes frame b) && home == 0 then None
    else Some (bare (Took b.lane sender) ∷ made_entries b.lane serial (with_frame frame b) b (closes frame b))

-- and those of a tick
abbrev pub tick_lines : ℕ → ℕ → Building → Option History
tick_lines serial home b =
    if is_empty b.frames then None
    else (if nat_lt 0 b.pending then Some (bare (Waited b.lane) ∷ [])
    else (if tick_needs b.lane b && home == 0 then None
    else Some (made_entry b.lane serial b.frames b (b.cover, end b) ∷ [])))
