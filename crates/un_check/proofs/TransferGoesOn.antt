-- A line that is said of a lane's transfers goes on from them.
use Rattle.std.proofs.Common.{◌≡◌, ℕ, ◌+◌, ◌<◌, ◌≤◌, Bool, true, false, ◌==◌, ◌&&◌, nat_lt, nat_le, length, Option, Some, None, refl, subst, arith, if◌then◌else◌}
use Rattle.std.proofs.lemmas.Bool.{ltb-true, leb-true}
use Rattle.std.proofs.lemmas.Option.{same_Some, none-some}
use Rattle.un_facts.specs.Numbers.{one_if}
use Rattle.un_frame.specs.declared.kinds.FaultKind.{FaultKind}
use Rattle.un_frame.specs.declared.kinds.Planned.{Planned}
use Rattle.un_frame.specs.declared.kinds.Planned.TheVariants.{Clean, Proto, Halt}
use Rattle.un_frame.specs.declared.params.Lane.{Lane}
use Rattle.un_journal.specs.declared.lines.Line.{Line}
use Rattle.un_check.specs.Transfers.{Transfers, AreCounts}
use Rattle.un_check.specs.TransferLaws.{TakeGoesOn, LandGoesOn, TxDoneGoesOn, UnlinkGoesOn, ClearGoesOn, CutGoesOn, MarkGoesOn}
use Rattle.un_check.specs.TransferLines.{GoesOn, first_unmarked, first_waiting, next_mark, takes, lands, planned_line, marks_or_recalls, unmarked_serial}
use Rattle.un_check.proofs.TransferCounts.{out_made}

-- what holds of what either choice says holds of what is said
pub chosen : {X : Type 0} (P : X → Type 0) (b : Bool) (p q : Option X) (x : X)
    → (b ≡ true → p ≡ Some x → P x) → (b ≡ false → q ≡ Some x → P x) → (if b then p else q) ≡ Some x → P x
chosen P true p q x one other e = one refl e
chosen P false p q x one other e = other refl e

-- what is said is the one, or none is
pub said : {X : Type 0} (P : X → Type 0) (x y : X) → P x → Some x ≡ Some y → P y
said P x y p e = subst P (same_Some x y e) p

pub unsaid : {X : Type 0} (P : X → Type 0) (y : X) → None ≡ Some y → P y
unsaid P y e = absurd (none-some y e)

both_true : (a b : Bool) → (a && b) ≡ true → (a ≡ true) × (b ≡ true)
both_true true true e = (refl, refl)
both_true true false e = cc
both_true false b e = cc

-- STEPS

takes_goes : (asleep : Bool) (lane : Lane) (count : ℕ) (t : Transfers) (m : Option ℕ) (line : Line)
    → t.is_out ≡ false → t.over < length t.all → takes asleep lane count t m ≡ Some line → GoesOn line t
takes_goes asleep lane count t (Some cause) line down low e = said (λ l. GoesOn l t) (Line.Cut lane t.over cause) line (refl, low) e
takes_goes asleep lane count t None line down low e =
    let goes : Line → Type 0 = λ l. GoesOn l t in
    chosen goes asleep _ _ line (λ h n. unsaid goes line n) (λ h.
    chosen goes t.is_halted _ _ line (λ i n. unsaid goes line n) (λ i.
    chosen goes (count == 0) _ _ line (λ j n. unsaid goes line n) (λ j.
    said goes (Line.Flying lane t.over) line (refl, down, low)))) e

pub take_goes : TakeGoesOn
take_goes asleep is_deferring lane count t line =
    let goes : Line → Type 0 = λ l. GoesOn l t in
    chosen goes t.is_out _ _ line (λ h n. unsaid goes line n) (λ down.
    chosen goes is_deferring _ _ line (λ i n. unsaid goes line n) (λ i.
    chosen goes (nat_lt t.over (length t.all)) _ _ line
    (λ low. takes_goes asleep lane count t (next_mark t) line down (ltb-true t.over (length t.all) low)) (λ j n. unsaid goes line n)))

planned_goes : (lane : Lane) (plan : Planned) (t : Transfers) (line : Line) → t.is_out ≡ true → planned_line lane plan t ≡ Some line → GoesOn line t
planned_goes lane Clean t line out = said (λ l. GoesOn l t) (Line.Landed lane t.over) line (refl, out)
planned_goes lane Halt t line out = said (λ l. GoesOn l t) (Line.Failed lane t.over FaultKind.Halt) line (refl, out)
planned_goes lane (Proto times) t line out =
    let goes : Line → Type 0 = λ l. GoesOn l t in
    chosen goes (nat_le times t.tries) _ _ line (λ h. said goes (Line.Landed lane t.over) line (refl, out)) (λ h.
    chosen goes (nat_lt t.tries 3) _ _ line (λ low. said goes (Line.Retried lane t.over (t.tries + 1)) line (refl, out, ltb-true t.tries 3 low)) (λ i.
    chosen goes (t.tries == 3) _ _ line (λ j. said goes (Line.Failed lane t.over FaultKind.Proto) line (refl, out)) (λ j n. unsaid goes line n)))

lands_goes : (lane : Lane) (plan : Planned) (t : Transfers) (m : Option ℕ) (line : Line) → AreCounts t → t.is_out ≡ true → lands lane plan t m ≡ Some line → GoesOn line t
lands_goes lane plan t (Some cause) line c out = said (λ l. GoesOn l t) (Line.Cut lane t.over cause) line (refl, out_made t c out)
lands_goes lane plan t None line c out = planned_goes lane plan t line out

pub land_goes : LandGoesOn
land_goes lane plan t line c =
    let goes : Line → Type 0 = λ l. GoesOn l t in
    chosen goes t.is_out _ _ line (λ out. lands_goes lane plan t (next_mark t) line c out) (λ h n. unsaid goes line n)

pub tx_done_goes : TxDoneGoesOn
tx_done_goes lane t line =
    let goes : Line → Type 0 = λ l. GoesOn l t in
    chosen goes (nat_lt t.home t.over) _ _ line (λ low. said goes (Line.TxHome lane t.home) line (refl, ltb-true t.home t.over low)) (λ h n. unsaid goes line n)

pub clear_goes : ClearGoesOn
clear_goes lane t line =
    let goes : Line → Type 0 = λ l. GoesOn l t in
    chosen goes t.is_halted _ _ line (λ h. said goes (Line.Cleared lane) line tt) (λ h n. unsaid goes line n)

-- CONTROLS

pub cut_goes : CutGoesOn
cut_goes lane k cause t down =
    let goes : ℕ → Type 0 = λ i. GoesOn (Line.Cut lane i cause) t in
    let none : one_if t.is_out ≡ 0 = subst (λ b. one_if t.is_out ≡ one_if b) down refl in
    chosen goes (nat_lt (first_waiting t) (length t.all)) _ _ k
    (λ low. let w : t.over + one_if t.is_out < length t.all = ltb-true (first_waiting t) (length t.all) low in said goes (first_waiting t) k (omega arith, omega arith))
    (λ h n. unsaid goes k n)

pub mark_goes : MarkGoesOn
mark_goes true lane k cause t c =
    let goes : ℕ → Type 0 = λ i. GoesOn (Line.Marked lane i cause) t in
    chosen goes (t.is_out && nat_le t.marked t.over) _ _ k
    (λ h. let is = both_true t.is_out (nat_le t.marked t.over) h in
    let low : t.over < length t.all = out_made t c is.0 in
    let below : t.marked ≤ t.over = leb-true t.marked t.over is.1 in
    said goes t.over k (omega arith, omega arith))
    (λ h n. unsaid goes k n)
mark_goes false lane k cause t c =
    let goes : ℕ → Type 0 = λ i. GoesOn (Line.Marked lane i cause) t in
    chosen goes (nat_lt (first_unmarked t) (length t.all)) _ _ k (λ low. said goes (first_unmarked t) k (refl, ltb-true (first_unmarked t) (length t.all) low)) (λ h n. unsaid goes k n)

unlink_at_goes : (lane : Lane) (cause count : ℕ) (t : Transfers) (serial : Option ℕ) (line : Line)
    → ((k : ℕ) → serial ≡ Some k → GoesOn (Line.Marked lane k cause) t) → marks_or_recalls lane cause count serial ≡ Some line → GoesOn line t
unlink_at_goes lane cause count t (Some k) line goes = said (λ l. GoesOn l t) (Line.Marked lane k cause) line (goes k refl)
unlink_at_goes lane cause count t None line goes =
    let goes_on : Line → Type 0 = λ l. GoesOn l t in
    chosen goes_on (count == 0) _ _ line (λ h n. unsaid goes_on line n) (λ h. said goes_on (Line.Recalled lane) line tt)

pub unlink_goes : UnlinkGoesOn
unlink_goes is_deferring lane cause count t line c = unlink_at_goes lane cause count t (unmarked_serial is_deferring t) line (λ k. mark_goes is_deferring lane k cause t c)
