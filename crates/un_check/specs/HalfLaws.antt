-- The laws of what a checker keeps of a lane. Each is the contract of a public call in src/laws_half.rt.
use Rattle.std.specs.Prelude.{◌≡◌, ◌≢◌, ℕ, ◌-◌, List, [], ◌∷◌, length, Some, reverse}
use Rattle.std.specs.List.{list_all}
use Rattle.un_frame.specs.declared.params.Lane.{Lane}
use Rattle.un_frame.specs.Params.{AreInRange, Agree}
use Rattle.un_journal.specs.declared.lines.Line.{Line}
use Rattle.un_journal.specs.declared.lines.Line.TheVariants.{Took, Made}
use Rattle.un_journal.specs.Script.{Script, Frame}
use Rattle.un_journal.specs.History.{Entry, History, past, taken}
use Rattle.un_journal.specs.Lookup.{phase_of, controls_done, feed_head, feeds_empty, tx_home, rx_home}
use Rattle.un_journal.specs.Sound.{IsSound}
use Rattle.un_journal.specs.Step.{Work, Settle, work, is_still, lane_works}
use Rattle.un_journal.specs.Fits.{Legal}
use Rattle.un_check.specs.Says.{SaysAll}
use Rattle.un_check.specs.Half.{Half, Keeps, fresh_half, home}
use Rattle.un_check.specs.HalfLines.{GoesOn, after, head_of, said}
use Rattle.un_check.specs.HalfCalls.{are_feeds_empty, is_silent}
use Rattle.un_check.specs.BuildingLines.{IsTold, closes}

-- WHAT IS KEPT

-- before the first line
abbrev pub FreshIsKept : Type 0
FreshIsKept = (script : Script) (lane : Lane) → Keeps script lane [] (fresh_half script.params lane)

-- each line that may follow leaves what is kept of the lane's lines with it
abbrev pub HalfIsKept : Type 0
HalfIsKept = (script : Script) (lane : Lane) (g : History) (half : Half) (frame : Frame) (line : Line) (bytes : List ℕ)
    → IsSound ((line, bytes) ∷ g) → IsTold script lane frame line g → GoesOn line half → Keeps script lane g half
    → Keeps script lane ((line, bytes) ∷ g) (after frame line half)

-- the first frame of a feed, and the requests at home
abbrev pub HeadIsKept : Type 0
HeadIsKept = (script : Script) (lane : Lane) (g : History) (half : Half) (sender : ℕ)
    → Keeps script lane g half → feed_head script lane g sender ≡ head_of script lane half sender

abbrev pub HomeIsKept : Type 0
HomeIsKept = (script : Script) (lane : Lane) (g : History) (half : Half)
    → Keeps script lane g half → (tx_home script.params lane g ≡ home half) × (rx_home script.params lane g ≡ half.receiving.home)

-- how many datagrams were accepted, and whether the feeds are empty
abbrev pub TakenIsKept : Type 0
TakenIsKept = (script : Script) (lane : Lane) (g : History) (half : Half) → Keeps script lane g half → taken g ≡ length half.accepted

abbrev pub FeedsAreKept : Type 0
FeedsAreKept = (script : Script) (lane : Lane) (g : History) (half : Half)
    → Keeps script lane g half → feeds_empty script lane g ≡ are_feeds_empty script lane half

-- WHAT THE STEPS WRITE

-- the lane of a work that isn't the end of a stop
abbrev pub IsOfLane : Lane → Work → Type 0
IsOfLane lane (Work.Offer l s) = l ≡ lane
IsOfLane lane (Work.Tick l) = l ≡ lane
IsOfLane lane (Work.Take l) = l ≡ lane
IsOfLane lane (Work.Land l) = l ≡ lane
IsOfLane lane (Work.TxDone l) = l ≡ lane
IsOfLane lane (Work.RxDone l) = l ≡ lane
IsOfLane lane (Work.Deliver l) = l ≡ lane
IsOfLane lane (Work.Refill l) = l ≡ lane
IsOfLane lane (Work.Unlink l) = l ≡ lane
IsOfLane lane (Work.ClearHalt l) = l ≡ lane
IsOfLane lane Settle = Unit {0}

-- each work of the lane writes what is said, or nothing
abbrev pub WorkIsSaid : Type 0
WorkIsSaid = (script : Script) (h : History) (lane : Lane) (half : Half) (w : Work)
    → AreInRange script.params → Agree script.params → Legal script h → Keeps script lane (past lane h) half → IsOfLane lane w → w ≢ Settle
    → SaysAll (said script (phase_of script h) lane (controls_done (reverse h) - 1) half w) (work script h w)

-- so the lane's half is silent exactly where none of its steps but a landing fits
abbrev pub SilenceIsStill : Type 0
SilenceIsStill = (script : Script) (h : History) (lane : Lane) (half : Half)
    → AreInRange script.params → Agree script.params → Legal script h → Keeps script lane (past lane h) half
    → is_silent script (phase_of script h) lane (controls_done (reverse h) - 1) half ≡ list_all (λ w. is_still (work script h w)) (lane_works lane)

-- the first of its lines goes on from what is kept; an offer that is taken may have a second, of the span that its frame closes, which goes
-- on from the first
abbrev pub SaidGoesOn : Type 0
SaidGoesOn = (script : Script) (h : History) (lane : Lane) (half : Half) (w : Work) (e : Entry) (more : History)
    → Keeps script lane (past lane h) half → IsOfLane lane w
    → said script (phase_of script h) lane (controls_done (reverse h) - 1) half w ≡ Some (e ∷ more) → GoesOn e.0 half

abbrev pub OfferGoesOn : Type 0
OfferGoesOn = (script : Script) (h : History) (lane l l' : Lane) (sender : ℕ) (half : Half) (frame : Frame) (span : ℕ × ℕ)
    → Legal script h → Keeps script lane (past lane h) half → closes frame half.building ≡ Some span
    → GoesOn (Made l' (length half.transfers.all) span.0 span.1) (after frame (Took l sender) half)
