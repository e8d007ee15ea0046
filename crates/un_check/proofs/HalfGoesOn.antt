-- The first line that is said of a step of a lane goes on from what is kept, and the second of an offer from the first.
use Rattle.std.proofs.Common.{◌≡◌, ℕ, zero, suc, ◌+◌, ◌-◌, ◌<◌, Bool, true, false, ◌&&◌, ◌==◌, nat_lt, nat_le, List, [], ◌∷◌, length, reverse, Option, Some, None, refl, arith, if◌then◌else◌}
use Rattle.std.proofs.lemmas.Bool.{ltb-true}
use Rattle.un_facts.specs.Lists.{is_empty}
use Rattle.un_frame.specs.declared.params.Lane.{Lane}
use Rattle.un_frame.specs.declared.kinds.FaultKind.{FaultKind}
use Rattle.un_frame.specs.declared.kinds.Phase.{Phase}
use Rattle.un_frame.specs.declared.kinds.Planned.{Planned}
use Rattle.un_frame.specs.declared.kinds.Planned.TheVariants.{Clean, Proto, Halt}
use Rattle.un_frame.specs.declared.kinds.Verdict.{Verdict}
use Rattle.un_frame.specs.Verdict.{verdict_of}
use Rattle.un_journal.specs.declared.lines.Line.{Line}
use Rattle.un_journal.specs.Script.{Script, Frame, planned}
use Rattle.un_journal.specs.History.{History, past, first}
use Rattle.un_journal.specs.Lookup.{phase_of, works, is_awake, is_asleep, is_stopping, is_deferring, controls_done}
use Rattle.un_journal.specs.LaneSteps.{bare}
use Rattle.un_journal.specs.Step.{Offer, Tick, Take, Land, TxDone, RxDone, Deliver, Refill, Unlink, ClearHalt, Settle}
use Rattle.un_journal.proofs.ForReader.{legal_good}
use Rattle.un_check.specs.declared.reading.Reading.{Reading}
use Rattle.un_check.specs.Building.{Building, end}
use Rattle.un_check.specs.Transfers.{Transfers}
use Rattle.un_check.specs.Receiving.{Receiving}
use Rattle.un_check.specs.BuildingLines as building
use Rattle.un_check.specs.BuildingLines.{IsSpan, offer_needs, tick_needs, closes, with_frame, made_entry, made_entries, offer_lines, tick_lines}
use Rattle.un_check.specs.TransferLines as transfers
use Rattle.un_check.specs.TransferLines.{take_line, takes, land_line, lands, planned_line, tx_done_line, unlink_line, marks_or_recalls, unmarked_serial, clear_line, next_mark}
use Rattle.un_check.specs.ReceivingLines as receiving
use Rattle.un_check.specs.ReceivingLines.{rx_done_line, opens, deliver_number, post_line}
use Rattle.un_check.specs.Half.{Half, home}
use Rattle.un_check.specs.HalfLines.{GoesOn, one, judged, offered, given, head_of}
use Rattle.un_check.specs.HalfLaws.{SaidGoesOn, OfferGoesOn}
use Rattle.un_check.proofs.BuildingSteps as built
use Rattle.un_check.proofs.TransferGoesOn as sent
use Rattle.un_check.proofs.TransferGoesOn.{chosen, unsaid}
use Rattle.un_check.proofs.ReceivingSteps.{rx_done_goes, deliver_goes, post_goes}

-- what is built, and the receiving end, go on with the line
abbrev Beside : Building → Receiving → Line → Type 0
Beside b r line = building.GoesOn line b × receiving.GoesOn line r

-- the first of the lines goes on
abbrev HeadGoes : Half → History → Type 0
HeadGoes half [] = Unit {0}
HeadGoes half (e ∷ lines) = GoesOn e.0 half

one_goes : (half : Half) (o : Option Line) (lines : History) → ((line : Line) → o ≡ Some line → GoesOn line half) → one o ≡ Some lines → HeadGoes half lines
one_goes half None lines goes e = unsaid (HeadGoes half) lines e
one_goes half (Some line) lines goes e = sent.said (HeadGoes half) (bare line ∷ []) lines (goes line refl) e

some : (n : ℕ) → (n == 0) ≡ false → 0 < n
some zero e = cc
some (suc n) e = omega arith

-- TRANSFERS

takes_beside : (b : Building) (r : Receiving) (asleep : Bool) (lane : Lane) (t : Transfers) (m : Option ℕ) (line : Line) → takes asleep lane r.posted t m ≡ Some line → Beside b r line
takes_beside b r asleep lane t (Some cause) line e = sent.said (Beside b r) (Line.Cut lane t.over cause) line (tt, tt) e
takes_beside b r asleep lane t None line e =
    let goes : Line → Type 0 = λ l. Beside b r l in
    chosen goes asleep _ _ line (λ h n. unsaid goes line n) (λ h.
    chosen goes t.is_halted _ _ line (λ i n. unsaid goes line n) (λ i.
    chosen goes (r.posted == 0) _ _ line (λ j n. unsaid goes line n) (λ j.
    sent.said goes (Line.Flying lane t.over) line (tt, some r.posted j)))) e

take_beside : (b : Building) (r : Receiving) (asleep is_deferring : Bool) (lane : Lane) (t : Transfers) (line : Line) → take_line asleep is_deferring lane r.posted t ≡ Some line → Beside b r line
take_beside b r asleep is_deferring lane t line =
    let goes : Line → Type 0 = λ l. Beside b r l in
    chosen goes t.is_out _ _ line (λ h n. unsaid goes line n) (λ h.
    chosen goes is_deferring _ _ line (λ i n. unsaid goes line n) (λ i.
    chosen goes (nat_lt t.over (length t.all)) _ _ line (λ j. takes_beside b r asleep lane t (next_mark t) line) (λ j n. unsaid goes line n)))

planned_beside : (b : Building) (r : Receiving) (lane : Lane) (plan : Planned) (t : Transfers) (line : Line) → planned_line lane plan t ≡ Some line → Beside b r line
planned_beside b r lane Clean t line = sent.said (Beside b r) (Line.Landed lane t.over) line (tt, tt)
planned_beside b r lane Halt t line = sent.said (Beside b r) (Line.Failed lane t.over FaultKind.Halt) line (tt, tt)
planned_beside b r lane (Proto times) t line =
    let goes : Line → Type 0 = λ l. Beside b r l in
    chosen goes (nat_le times t.tries) _ _ line (λ h. sent.said goes (Line.Landed lane t.over) line (tt, tt)) (λ h.
    chosen goes (nat_lt t.tries 3) _ _ line (λ i. sent.said goes (Line.Retried lane t.over (t.tries + 1)) line (tt, tt)) (λ i.
    chosen goes (t.tries == 3) _ _ line (λ j. sent.said goes (Line.Failed lane t.over FaultKind.Proto) line (tt, tt)) (λ j n. unsaid goes line n)))

lands_beside : (b : Building) (r : Receiving) (lane : Lane) (plan : Planned) (t : Transfers) (m : Option ℕ) (line : Line) → lands lane plan t m ≡ Some line → Beside b r line
lands_beside b r lane plan t (Some cause) line = sent.said (Beside b r) (Line.Cut lane t.over cause) line (tt, tt)
lands_beside b r lane plan t None line = planned_beside b r lane plan t line

land_beside : (b : Building) (r : Receiving) (lane : Lane) (plan : Planned) (t : Transfers) (line : Line) → land_line lane plan t ≡ Some line → Beside b r line
land_beside b r lane plan t line =
    let goes : Line → Type 0 = λ l. Beside b r l in
    chosen goes t.is_out _ _ line (λ h. lands_beside b r lane plan t (next_mark t) line) (λ h n. unsaid goes line n)

tx_done_beside : (b : Building) (r : Receiving) (lane : Lane) (t : Transfers) (line : Line) → tx_done_line lane t ≡ Some line → Beside b r line
tx_done_beside b r lane t line =
    let goes : Line → Type 0 = λ l. Beside b r l in
    chosen goes (nat_lt t.home t.over) _ _ line (λ h. sent.said goes (Line.TxHome lane t.home) line (tt, tt)) (λ h n. unsaid goes line n)

marks_beside : (b : Building) (r : Receiving) (lane : Lane) (cause : ℕ) (serial : Option ℕ) (line : Line) → marks_or_recalls lane cause r.posted serial ≡ Some line → Beside b r line
marks_beside b r lane cause (Some k) line = sent.said (Beside b r) (Line.Marked lane k cause) line (tt, tt)
marks_beside b r lane cause None line =
    let goes : Line → Type 0 = λ l. Beside b r l in
    chosen goes (r.posted == 0) _ _ line (λ h n. unsaid goes line n) (λ h. sent.said goes (Line.Recalled lane) line (tt, some r.posted h))

clear_beside : (b : Building) (r : Receiving) (lane : Lane) (t : Transfers) (line : Line) → clear_line lane t ≡ Some line → Beside b r line
clear_beside b r lane t line =
    let goes : Line → Type 0 = λ l. Beside b r l in
    chosen goes t.is_halted _ _ line (λ h. sent.said goes (Line.Cleared lane) line (tt, tt)) (λ h n. unsaid goes line n)

-- THE RECEIVING END

-- what is built, and the transfers, go on with the line
abbrev Before : Building → Transfers → Line → Type 0
Before b t line = building.GoesOn line b × transfers.GoesOn line t

opens_before : (b : Building) (t : Transfers) (lane : Lane) (k : Option ℕ) (line : Line) → opens lane k ≡ Some line → Before b t line
opens_before b t lane None line e = unsaid (Before b t) line e
opens_before b t lane (Some k) line e = sent.said (Before b t) (Line.Opened lane k) line (tt, tt) e

rx_done_before : (b : Building) (t : Transfers) (lane : Lane) (r : Receiving) (o : Option Reading) (line : Line) → rx_done_line lane r o ≡ Some line → Before b t line
rx_done_before b t lane r (Some reading) line e = unsaid (Before b t) line e
rx_done_before b t lane r None line e = opens_before b t lane (first r.landed) line e

post_before : (b : Building) (t : Transfers) (lane : Lane) (r : Receiving) (line : Line) → post_line lane r ≡ Some line → Before b t line
post_before b t lane r line =
    let goes : Line → Type 0 = λ l. Before b t l in
    chosen goes (r.home == 0) _ _ line (λ h n. unsaid goes line n) (λ h. sent.said goes (Line.Posted lane) line (tt, tt))

-- with what is known of two parts, and of the third
out_goes : (half : Half) (line : Line) → transfers.GoesOn line half.transfers → Beside half.building half.receiving line → GoesOn line half
out_goes half line t w = record { of_building = w.0; of_transfers = t; of_receiving = w.1 }

in_goes : (half : Half) (line : Line) → receiving.GoesOn line half.receiving → Before half.building half.transfers line → GoesOn line half
in_goes half line r w = record { of_building = w.0; of_transfers = w.1; of_receiving = r }

given_goes : (script : Script) (lane : Lane) (half : Half) (o : Option (ℕ × ℕ)) (lines : History) → deliver_number half.receiving.reading ≡ o → given script lane half o ≡ Some lines → HeadGoes half lines
given_goes script lane half None lines is e = unsaid (HeadGoes half) lines e
given_goes script lane half (Some d) lines is e =
    sent.said (HeadGoes half) _ lines (record { of_building = tt; of_transfers = tt; of_receiving = deliver_goes lane half.receiving d.0 d.1 is }) e

-- OFFERS AND TICKS

judged_goes : (lane : Lane) (sender : ℕ) (frame : Frame) (half : Half) (v : Verdict) (lines : History) → judged lane sender frame half v ≡ Some lines → HeadGoes half lines
judged_goes lane sender frame half Verdict.Take lines =
    let goes : History → Type 0 = λ l. HeadGoes half l in
    chosen goes (offer_needs half.building.lane half.building (closes frame half.building) && home half == 0) _ _ lines (λ h n. unsaid goes lines n)
    (λ h. sent.said goes _ lines (record { of_building = tt; of_transfers = tt; of_receiving = tt }))
judged_goes lane sender frame half Verdict.Short lines = sent.said (HeadGoes half) _ lines (record { of_building = tt; of_transfers = tt; of_receiving = tt })
judged_goes lane sender frame half Verdict.Long lines = sent.said (HeadGoes half) _ lines (record { of_building = tt; of_transfers = tt; of_receiving = tt })
judged_goes lane sender frame half Verdict.Filtered lines = sent.said (HeadGoes half) _ lines (record { of_building = tt; of_transfers = tt; of_receiving = tt })

offered_goes : (script : Script) (phase : Phase) (lane : Lane) (sender : ℕ) (half : Half) (o : Option Frame) (lines : History) → offered script phase lane sender half o ≡ Some lines → HeadGoes half lines
offered_goes script phase lane sender half None lines e = unsaid (HeadGoes half) lines e
offered_goes script phase lane sender half (Some frame) lines e =
    let goes : History → Type 0 = λ l. HeadGoes half l in
    chosen goes (works phase) _ _ lines (λ h. judged_goes lane sender frame half (verdict_of script.params lane frame) lines) (λ h n. unsaid goes lines n) e

not_empty : (frames : List Frame) → is_empty frames ≡ false → 0 < length frames
not_empty [] e = cc
not_empty (x ∷ frames) e = let more : length (x ∷ frames) ≡ length frames + 1 = omega arith in omega arith

-- the span of all that is built
whole_span : (b : Building) → 0 < length b.frames → IsSpan b.cover (end b) b
whole_span b some = record { begins = refl; is_some = omega arith; is_accepted = omega arith; leaves = λ o. omega arith }

ticked_goes : (half : Half) (lines : History) → tick_lines (length half.transfers.all) (home half) half.building ≡ Some lines → HeadGoes half lines
ticked_goes half lines =
    let goes : History → Type 0 = λ l. HeadGoes half l in
    chosen goes (is_empty half.building.frames) _ _ lines (λ h n. unsaid goes lines n) (λ h.
    chosen goes (nat_lt 0 half.building.pending) _ _ lines
    (λ i. sent.said goes _ lines (record { of_building = ltb-true 0 half.building.pending i; of_transfers = tt; of_receiving = tt })) (λ i.
    chosen goes (tick_needs half.building.lane half.building && home half == 0) _ _ lines (λ j n. unsaid goes lines n) (λ j.
    sent.said goes _ lines (record { of_building = whole_span half.building (not_empty half.building.frames h); of_transfers = refl; of_receiving = tt }))))

-- EVERY STEP

-- where a test passes
where_goes : (half : Half) (test : Bool) (o : Option Line) (lines : History) → ((line : Line) → o ≡ Some line → GoesOn line half) → (if test then one o else None) ≡ Some lines → HeadGoes half lines
where_goes half true o lines goes e = one_goes half o lines goes e
where_goes half false o lines goes e = unsaid (HeadGoes half) lines e

pub said_goes : SaidGoesOn
said_goes script h lane half (Offer l sender) e more w own is = offered_goes script (phase_of script h) lane sender half (head_of script lane half sender) (e ∷ more) is
said_goes script h lane half (Tick l) e more w own is = ticked_goes half (e ∷ more) is
said_goes script h lane half (Take l) e more w own is =
    let phase = phase_of script h in
    one_goes half _ (e ∷ more) (λ line q. out_goes half line (sent.take_goes (is_asleep phase) (is_deferring phase lane) lane half.receiving.posted half.transfers line q)
    (take_beside half.building half.receiving (is_asleep phase) (is_deferring phase lane) lane half.transfers line q)) is
said_goes script h lane half (Land l) e more w own is =
    let plan = planned script lane half.transfers.over in
    one_goes half _ (e ∷ more) (λ line q. out_goes half line (sent.land_goes lane plan half.transfers line w.transfers_are.counts q) (land_beside half.building half.receiving lane plan half.transfers line q)) is
said_goes script h lane half (TxDone l) e more w own is =
    one_goes half _ (e ∷ more) (λ line q. out_goes half line (sent.tx_done_goes lane half.transfers line q) (tx_done_beside half.building half.receiving lane half.transfers line q)) is
said_goes script h lane half (RxDone l) e more w own is =
    one_goes half _ (e ∷ more) (λ line q. in_goes half line (rx_done_goes lane half.receiving line q) (rx_done_before half.building half.transfers lane half.receiving half.receiving.reading line q)) is
said_goes script h lane half (Deliver l) e more w own is = given_goes script lane half (deliver_number half.receiving.reading) (e ∷ more) refl is
said_goes script h lane half (Refill l) e more w own is =
    where_goes half (is_awake (phase_of script h)) _ (e ∷ more) (λ line q. in_goes half line (post_goes lane half.receiving line q) (post_before half.building half.transfers lane half.receiving line q)) is
said_goes script h lane half (Unlink l) e more w own is =
    let defers = is_deferring (phase_of script h) lane in
    let cause = controls_done (reverse h) - 1 in
    where_goes half (is_stopping (phase_of script h)) _ (e ∷ more) (λ line q. out_goes half line (sent.unlink_goes defers lane cause half.receiving.posted half.transfers line w.transfers_are.counts q)
    (marks_beside half.building half.receiving lane cause (unmarked_serial defers half.transfers) line q)) is
said_goes script h lane half (ClearHalt l) e more w own is =
    where_goes half (is_awake (phase_of script h)) _ (e ∷ more) (λ line q. out_goes half line (sent.clear_goes lane half.transfers line q) (clear_beside half.building half.receiving lane half.transfers line q)) is
said_goes script h lane half Settle e more w own is = unsaid (HeadGoes half) (e ∷ more) is

-- the second line of an offer
pub offer_goes : OfferGoesOn
offer_goes script h lane l l' sender half frame span legal w closed = record {
  of_building = built.offer_goes script lane l' (length half.transfers.all) (past lane h) half.building frame span w.built ((legal_good script h legal).whole lane) closed;
  of_transfers = refl;
  of_receiving = tt;
}
