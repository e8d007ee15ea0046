-- An offer or a tick, by what it built.
use Rattle.std.proofs.Common.{◌≡◌, ℕ, ◌-◌, ◌+◌, ◌<◌, Bool, true, false, not, ◌&&◌, ◌==◌, nat_lt, min, List, [], ◌∷◌, length, take, drop, Option, Some, is_some, refl, sym, ap, ◌∙◌, subst, arith, if◌then◌else◌}
use Rattle.std.proofs.lemmas.Bool.Decides.{nat_tests}
use Rattle.un_frame.specs.declared.params.Lane.{Lane}
use Rattle.un_frame.specs.declared.params.Lane.TheVariants.{Outward, Inward}
use Rattle.un_frame.specs.declared.params.Params.{Params}
use Rattle.un_frame.specs.Lanes.{packs}
use Rattle.un_req.specs.Request.{Buffer}
use Rattle.un_endpoint.specs.Bus.{Bus}
use Rattle.un_endpoint.specs.EndOutcomes.{Makes, Closes, Waits, frame_needs_home, tick_needs, with_frame}
use Rattle.un_endpoint.specs.Ends.{Transmitter}
use Rattle.un_journal.specs.declared.actions.Answer.{Answer}
use Rattle.un_journal.specs.declared.lines.Line.TheVariants.{Took, Waited}
use Rattle.un_journal.specs.History.{Entry, History, taken, made, cover, took_last, waited_after}
use Rattle.un_journal.specs.LaneSteps.{Outcome, Writes, Answers, bare, accept, made_line, tick_built}
use Rattle.un_journal.specs.Log.{Log}
use Rattle.un_journal.specs.Lookup.{pending, tick_needs_home, tx_home}
use Rattle.un_journal.proofs.ForLane.{take_whole, onto, AllOf}
use Rattle.un_lane.specs.Way.{Way, Adds, lane_lines}
use Rattle.un_lane.specs.Calls.{Does}
use Rattle.un_lane.specs.Phases.{Agrees, Builds, BuildsIn, IsSent, defers, made_of}
use Rattle.un_lane.specs.Stands.{Stands, claims_when, pends_when}
use Rattle.un_lane.proofs.Adding.{adds_more}
use Rattle.un_lane.proofs.Closing.{closes_builds, closes_stands, makes_builds, makes_stands}
use Rattle.un_lane.proofs.Counting.{not_zero}
use Rattle.un_lane.proofs.Doing.{lines_after, wrote}
use Rattle.un_lane.proofs.Offering.{home_is, offer_makes, uses_can}

pub builds_same : (asleep : Bool) (way : Way) (g : History) → Agrees asleep way → Builds asleep way way way.tx.builder.frames g g
builds_same asleep way g a = record {
  lane_is = refl;
  params_are = refl;
  frames_are = let none : cover g - cover g ≡ 0 = omega arith in ap (λ n. drop n way.tx.builder.frames) (sym none);
  agrees = a;
}

pub waits_builds : (asleep : Bool) (way : Way) (t : Transmitter) (g : History) → Waits way.tx t → Agrees asleep way → Builds asleep way (record way { tx = t }) way.tx.builder.frames g ((Waited way.lane, []) ∷ g)
waits_builds asleep way t g m a =
    subst (λ (u : Transmitter). Builds asleep way (record way { tx = u }) way.tx.builder.frames g ((Waited way.lane, []) ∷ g)) (sym m.rest) (waited (builds_same asleep way g a))
  where
    waited : Builds asleep way way way.tx.builder.frames g g → Builds asleep way (record way { tx = record way.tx { builder = record way.tx.builder { pending = way.tx.builder.pending - 1 } } }) way.tx.builder.frames g ((Waited way.lane, []) ∷ g)
    waited b = record { lane_is = refl; params_are = refl; frames_are = b.frames_are; agrees = a }

pub builds_after : (asleep : Bool) (old new : Way) (frames : List (List ℕ)) (g : History) (log log' : Log) (lines : History) → Adds log log' lines → AllOf new.lane lines
    → Builds asleep old new frames g (onto lines (lane_lines new log)) → Builds asleep old new frames g (lane_lines new log')
builds_after asleep old new frames g log log' lines a own b = subst (Builds asleep old new frames g) (sym (lines_after new log log' lines a own)) b

sent_flight : (b : Bool) (t t' : Transmitter) (bus bus' : Bus) (x : Buffer) → IsSent b t t' bus bus' x → bus'.flight ≡ bus.flight
sent_flight true t t' bus bus' x s = ap (λ (b : Bus). b.flight) s.1
sent_flight false t t' bus bus' x s = ap (λ (b : Bus). b.flight) s.1

-- an accepted frame made a transfer
pub offer_does : (asleep : Bool) (way : Way) (log mid log' : Log) (t t' : Transmitter) (bus' : Bus) (sender : ℕ) (frame : List ℕ) (x : Buffer) → Stands way (lane_lines way log) → Agrees asleep way
    → Makes way.tx t frame way.accepted way.made x → Adds log mid ((Took way.lane sender, []) ∷ []) → Adds mid log' (made_of way x ∷ []) → IsSent (defers way.lane asleep) t t' way.bus bus' x
    → Does (BuildsIn asleep (with_frame way.tx frame) log log') (accept way.tx.params way.lane sender (with_frame way.tx frame) (lane_lines way log)) way (record way { accepted = way.accepted + 1; made = way.made + 1; tx = t'; bus = bus' }) log log' Answer.Did
offer_does asleep way log mid log' t t' bus' sender frame x w a m took made sent =
    let g : History = lane_lines way log in
    let new : Way = record way { accepted = way.accepted + 1; made = way.made + 1; tx = t'; bus = bus' } in
    let lines : History = (Took way.lane sender, []) ∷ made_of way x ∷ [] in
    let adds : Adds log log' lines = adds_more log mid log' ((Took way.lane sender, []) ∷ []) (made_of way x ∷ []) took made in
    wrote _ _ way new log log' lines (offer_makes way g t sender frame way.made x w refl m) adds (λ l. refl, (λ l. refl, tt))
    (makes_stands way g t t' bus' sender frame x asleep w m a sent)
    (builds_after asleep way new (with_frame way.tx frame) g log log' lines adds (λ l. refl, (λ l. refl, tt)) (makes_builds way g t t' bus' sender frame x asleep w m a sent))
    (sent_flight (defers way.lane asleep) t t' way.bus bus' x sent)

-- WHAT A TICK IS, BY WHAT THE END HAS

abbrev pub ticked : ℕ → ℕ → Bool → ℕ → Lane → Entry → Outcome
ticked count waits needs home lane line =
    if count == 0 then Answers Answer.Nothing
    else (if nat_lt 0 waits then Writes (bare (Waited lane) ∷ [])
    else (if needs && home == 0 then Answers Answer.NoRequest
    else Writes (line ∷ [])))

abbrev pub line_of : Way → List (List ℕ) → History → Entry
line_of way frames g = made_line way.tx.params way.lane frames g (cover g, taken g)

pending_is : (params : Params) (lane : Lane) (g : History) → pending params lane g ≡ pends_when lane (packs params.class lane && nat_lt 0 (taken g - cover g) && took_last g) (waited_after g (min (taken g - 1) (cover g + 1)))
pending_is params Outward g = refl
pending_is params Inward g = refl

tick_needs_is : (params : Params) (lane : Lane) (g : History) (claim : Option ℕ) → is_some claim ≡ claims_when lane (packs params.class lane && nat_lt 0 (taken g - cover g) && took_last g)
    → tick_needs_home params lane g ≡ tick_needs lane claim
tick_needs_is params Outward g claim e = ap not (sym e)
tick_needs_is params Inward g claim e = refl

pub tick_is : (way : Way) (g : History) (frames : List (List ℕ)) → Stands way g
    → tick_built way.tx.params way.lane frames g ≡ ticked (length way.tx.builder.frames) way.tx.builder.pending (tick_needs way.lane way.tx.builder.claim) (length way.tx.home) way.lane (line_of way frames g)
tick_is way g frames w =
    let covered : cover g + length way.tx.builder.frames ≡ taken g = w.building.covered in
    let count : taken g - cover g ≡ length way.tx.builder.frames = omega arith in
    ap (λ n. ticked n (pending way.tx.params way.lane g) (tick_needs_home way.tx.params way.lane g) (tx_home way.tx.params way.lane g) way.lane (line_of way frames g)) count
    ∙ (ap (λ n. ticked (length way.tx.builder.frames) n (tick_needs_home way.tx.params way.lane g) (tx_home way.tx.params way.lane g) way.lane (line_of way frames g)) (pending_is way.tx.params way.lane g ∙ sym w.building.pends)
    ∙ (ap (λ b. ticked (length way.tx.builder.frames) way.tx.builder.pending b (tx_home way.tx.params way.lane g) way.lane (line_of way frames g)) (tick_needs_is way.tx.params way.lane g way.tx.builder.claim w.building.claimed)
    ∙ ap (λ n. ticked (length way.tx.builder.frames) way.tx.builder.pending (tick_needs way.lane way.tx.builder.claim) n way.lane (line_of way frames g)) (home_is way g w)))

is_less : (n : ℕ) → 0 < n → nat_lt 0 n ≡ true
is_less n h = grind (arith, nat_tests)

ticked_closes : (count waits home : ℕ) (needs : Bool) (lane : Lane) (line : Entry) → 0 < count → waits ≡ 0 → (needs && (home == 0)) ≡ false → ticked count waits needs home lane line ≡ Writes (line ∷ [])
ticked_closes count waits home needs lane line some due can = rw (not_zero count some, due, can) refl

pub tick_waits : (way : Way) (g : History) (t : Transmitter) → Stands way g → Waits way.tx t → tick_built way.tx.params way.lane way.tx.builder.frames g ≡ Writes (bare (Waited way.lane) ∷ [])
tick_waits way g t w m = tick_is way g way.tx.builder.frames w ∙ rw (not_zero (length way.tx.builder.frames) m.some, is_less way.tx.builder.pending m.pends) refl

pub tick_closes : (way : Way) (g : History) (t : Transmitter) (x : Buffer) → Stands way g → Closes way.tx t way.made x → tick_built way.tx.params way.lane way.tx.builder.frames g ≡ Writes (made_of way x ∷ [])
tick_closes way g t x w m =
    let covered : cover g + length way.tx.builder.frames ≡ taken g = w.building.covered in
    let begins : way.tx.builder.from ≡ cover g = w.building.from_is m.some in
    let from : x.from ≡ cover g = m.made.from_is ∙ begins in
    let end : x.to ≡ way.tx.builder.from + length way.tx.builder.frames = m.made.to_is in
    let to : taken g ≡ x.to = omega arith in
    let whole : take (taken g - cover g) way.tx.builder.frames ≡ way.tx.builder.frames = take_whole (taken g - cover g) way.tx.builder.frames (omega arith) in
    let can = ap (λ b. b && (length way.tx.home == 0)) (needs_same way.lane way.tx.builder.claim) ∙ uses_can way.lane way.tx t x.number (Some (0, 0)) _ w.building.claimed m.uses in
    let line : line_of way way.tx.builder.frames g ≡ made_of way x = rw (whole, w.building.made_is, to, sym from, m.made.bytes_are) refl in
    tick_is way g way.tx.builder.frames w
    ∙ (ticked_closes (length way.tx.builder.frames) way.tx.builder.pending (length way.tx.home) (tick_needs way.lane way.tx.builder.claim) way.lane _ m.some m.due can ∙ ap (λ (e : Entry). Writes (e ∷ [])) line)
  where
    needs_same : (lane : Lane) (claim : Option ℕ) → tick_needs lane claim ≡ frame_needs_home lane claim (Some (0, 0))
    needs_same Outward claim = refl
    needs_same Inward claim = refl

-- a tick made one
pub tick_does : (asleep : Bool) (way : Way) (log log' : Log) (t t' : Transmitter) (bus' : Bus) (x : Buffer) → Stands way (lane_lines way log) → Agrees asleep way
    → Closes way.tx t way.made x → Adds log log' (made_of way x ∷ []) → IsSent (defers way.lane asleep) t t' way.bus bus' x
    → Does (BuildsIn asleep way.tx.builder.frames log log') (tick_built way.tx.params way.lane way.tx.builder.frames (lane_lines way log)) way (record way { made = way.made + 1; tx = t'; bus = bus' }) log log' Answer.Did
tick_does asleep way log log' t t' bus' x w a m adds sent =
    let g : History = lane_lines way log in
    let new : Way = record way { made = way.made + 1; tx = t'; bus = bus' } in
    wrote _ _ way new log log' (made_of way x ∷ []) (tick_closes way g t x w m) adds (λ l. refl, tt)
    (closes_stands way g t t' bus' x asleep w m a sent)
    (builds_after asleep way new way.tx.builder.frames g log log' (made_of way x ∷ []) adds (λ l. refl, tt) (closes_builds way g t t' bus' x asleep w m a sent))
    (sent_flight (defers way.lane asleep) t t' way.bus bus' x sent)
