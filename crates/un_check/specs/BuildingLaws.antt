-- The laws of what a checker keeps of what a lane builds. Each is the contract of a public call in src/laws_building.rt. A lane's lines
-- are g, the newest first.
use Rattle.std.specs.Prelude.{◌≡◌, ℕ, ◌<◌, false, List, [], ◌∷◌, Some, length}
use Rattle.un_facts.specs.Numbers.{one_if}
use Rattle.un_frame.specs.declared.params.Lane.{Lane}
use Rattle.un_frame.specs.Lanes.{packs}
use Rattle.un_journal.specs.declared.lines.Line.{Line}
use Rattle.un_journal.specs.declared.lines.Line.TheVariants.{Made}
use Rattle.un_journal.specs.Script.{Script, Frame}
use Rattle.un_journal.specs.History.{History, taken, cover, made}
use Rattle.un_journal.specs.Lookup.{built_frames, claim, feed_head, tx_home}
use Rattle.un_journal.specs.LaneSteps.{bare, accept, tick_built}
use Rattle.un_check.specs.Says.{SaysAll}
use Rattle.un_check.specs.Building.{Building, IsBuilt, nothing_built, end, claims}
use Rattle.un_check.specs.BuildingLines.{GoesOn, IsTold, after, took, closes, offer_lines, tick_lines}

-- WHAT IS KEPT

-- before the first line nothing is built
abbrev pub NothingIsBuilt : Type 0
NothingIsBuilt = (script : Script) (lane : Lane) → IsBuilt script lane [] (nothing_built script.params lane)

-- each line that may follow leaves what is built of the lines with it
abbrev pub LineIsBuilt : Type 0
LineIsBuilt = (script : Script) (lane : Lane) (g : History) (b : Building) (frame : Frame) (line : Line) (bytes : List ℕ)
    → IsTold script lane frame line g → GoesOn line b → IsBuilt script lane g b → IsBuilt script lane ((line, bytes) ∷ g) (after frame line b)

-- the claimed request is that of the lines
abbrev pub ClaimIsKept : Type 0
ClaimIsKept = (script : Script) (lane : Lane) (g : History) (b : Building) → IsBuilt script lane g b → claim script.params lane g ≡ one_if (claims b)

-- WHAT THE STEPS WRITE

-- an offer of the first frame of a sender's feed, which is to be taken: what is said is what the step writes
abbrev pub OfferIsSaid : Type 0
OfferIsSaid = (script : Script) (lane : Lane) (sender home : ℕ) (g : History) (b : Building) (frame : Frame)
    → IsBuilt script lane g b → feed_head script lane g sender ≡ Some frame → tx_home script.params lane g ≡ home
    → SaysAll (offer_lines sender (made g) home frame b) (accept script.params lane sender (built_frames script lane (bare (Line.Took lane sender) ∷ g)) g)

-- what it closes may follow, where a lane that packs one frame into a transfer has nothing built before: so it is after each step
abbrev pub OfferGoesOn : Type 0
OfferGoesOn = (script : Script) (lane l : Lane) (k : ℕ) (g : History) (b : Building) (frame : Frame) (span : ℕ × ℕ)
    → IsBuilt script lane g b → (packs script.params.class lane ≡ false → cover g ≡ taken g) → closes frame b ≡ Some span → GoesOn (Made l k span.0 span.1) (took frame b)

-- a tick
abbrev pub TickIsSaid : Type 0
TickIsSaid = (script : Script) (lane : Lane) (home : ℕ) (g : History) (b : Building)
    → IsBuilt script lane g b → tx_home script.params lane g ≡ home
    → SaysAll (tick_lines (made g) home b) (tick_built script.params lane (built_frames script lane g) g)

-- what it closes may follow
abbrev pub TickGoesOn : Type 0
TickGoesOn = (l : Lane) (k : ℕ) (b : Building) → 0 < length b.frames → GoesOn (Made l k b.cover (end b)) b
