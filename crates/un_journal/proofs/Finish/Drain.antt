-- The drain ends, whatever fuel it is given from the bound on, and leaves a history that is done.
use Rattle.un_journal.proofs.Steps.Landings.{LandLine, land_line}
use Rattle.std.proofs.Common.{◌≡◌, ℕ, zero, suc, ◌+◌, ◌<◌, ◌≤◌, Bool, true, false, not, ◌||◌, ◌==◌, List, [], ◌∷◌, ◌++◌, length, Option, Some, None, refl, sym, ap, ◌∙◌, subst, arith, if◌then◌else◌, filter, reverse, append_assoc, append-nil, length-append}
use Rattle.std.proofs.lemmas.Bool.{and_right, false≢true, eq-eqb, ne_eqb}
use Rattle.std.proofs.lemmas.Bool.Decides.{nat_tests}
use Rattle.std.proofs.lemmas.Option.{same_Some, none-some}
use Rattle.un_journal.proofs.Lists.Passing.{those_empty, Cons, those_first_is, cons_from}
use Rattle.un_frame.proofs.LaneLemmas.{same_lane-refl}
use Rattle.un_frame.specs.declared.params.Lane.{Lane}
use Rattle.un_frame.specs.declared.params.Lane.TheVariants.{Outward, Inward}
use Rattle.un_frame.specs.Lanes.{same_lane}
use Rattle.un_journal.specs.declared.lines.Line.TheVariants.{Flying, Landed, Failed, Retried, Cut}
use Rattle.un_journal.specs.declared.actions.Action.{Action}
use Rattle.un_journal.specs.Script.{Script, feeds_of, planned}
use Rattle.un_journal.specs.History.{Entry, History, past, concerns, made, flies, flying, mark, attempts}
use Rattle.un_journal.specs.Lookup.{phase_of, controls_done}
use Rattle.un_journal.specs.LaneSteps.{Outcome, Writes, Answers, lines_in, bare, land_marked}
use Rattle.un_journal.specs.Step.{Work, work, move_after, step_of, land_from, land_flight, made_if}
use Rattle.un_journal.specs.Drain.{run, round, drain_in, drain, same_length, line_bound}
use Rattle.un_journal.specs.Done.{NoneFlies}
use Rattle.un_journal.proofs.Lanes.Attempts.{legal_attempts}
use Rattle.un_journal.specs.Fits.{Act, Works, Controls, Fits, takes, refuses, waits_once, closes, begins_flight, cuts_queued, lands, tries_again, fails, cuts_flight, comes_home, opens, gives, posts_one, marks, recalls_one, clears, settles, orders, orders_forced, Legal, IsDone, act_outcome, after_took}
use Rattle.un_journal.proofs.Steps.StaySound.{legal_good, ArePlain, is_plain, order_plain, own_past}
use Rattle.un_journal.proofs.Steps.OneStep.{fits_outcome}
use Rattle.un_journal.proofs.Steps.OutcomesFit.{outcome_fits}
use Rattle.un_journal.proofs.Steps.StayLegal.{legal_run, legal_step, legal_drain_in}
use Rattle.un_journal.proofs.Bounds.LineBound.{legal_bound, head_within}
use Rattle.un_journal.proofs.Lists.NewestFirst.{onto, reverse_onto, past_onto, filter_of}
use Rattle.un_journal.proofs.Lanes.MayFollow.{next_from, queued_waiting}

-- EXTENDING

pub record Extends (h h' : History) : Type 0 where
  pub more : History
  pub is_more : h' ≡ h ++ more

pub extends_same : (h : History) → Extends h h
extends_same h = record { more = []; is_more = sym (append-nil h) }

pub extends_more : (h lines h' : History) → Extends (h ++ lines) h' → Extends h h'
extends_more h lines h' w = record { more = lines ++ w.more; is_more = w.is_more ∙ append_assoc h lines w.more }

pub run_extends : (script : Script) (h : History) (actions : List Action) → Extends h (run script h actions)
run_extends script h [] = extends_same h
run_extends script h (a ∷ rest) = extends_more h (step_of script h a) _ (run_extends script (h ++ step_of script h a) rest)

extends_through : (h h' h'' : History) → Extends h h' → Extends h' h'' → Extends h h''
extends_through h h' h'' p q = record { more = p.more ++ q.more; is_more = q.is_more ∙ (ap (λ i. i ++ q.more) p.is_more ∙ append_assoc h p.more q.more) }

drain_cases : (P : History → Type 0) (a b : Bool) (x y z : History) → (a ≡ false → P x) → (a ≡ true → b ≡ false → P y) → (a ≡ true → b ≡ true → P z)
    → P (elim a [ false ↦ x | true ↦ elim b [ false ↦ y | true ↦ z ] ])
drain_cases P false b x y z p q r = p refl
drain_cases P true false x y z p q r = q refl refl
drain_cases P true true x y z p q r = r refl refl

pub drain_extends : (n : ℕ) (script : Script) (h : History) → Extends h (drain_in n script h)
drain_extends zero script h = extends_same h
drain_extends (suc n) script h =
    drain_cases (Extends h) (same_length h (run script h round)) (same_length h (h ++ step_of script h (Action.Control true))) _ _ _
    (λ a. extends_through h (run script h round) _ (run_extends script h round) (drain_extends n script (run script h round)))
    (λ a b. extends_more h (step_of script h (Action.Control true)) _ (drain_extends n script (h ++ step_of script h (Action.Control true))))
    (λ a b. extends_same h)

-- FUEL

longer : (h h' : History) → same_length h h' ≡ false → length h < length h'
longer h h' e = grind (arith, nat_tests)

pub no_longer : (h h' : History) → length h' ≤ length h → same_length h h' ≡ true
no_longer h h' e = grind (arith, nat_tests)

not_longer : (h h' : History) → same_length h h' ≡ true → length h' ≤ length h
not_longer h h' e = grind (arith, nat_tests)

choice_last : (a b : Bool) (x y z : History) → a ≡ true → b ≡ true → (elim a as (λ i. History) [ false ↦ x | true ↦ elim b as (λ i. History) [ false ↦ y | true ↦ z ] ]) ≡ z
choice_last true true x y z p q = refl
choice_last true false x y z p q = absurd (false≢true q)
choice_last false b x y z p q = absurd (false≢true p)

-- a history that is as long as one can be is what the drain leaves
full : (n : ℕ) (script : Script) (h : History) → Legal script h → line_bound script ≤ length h → drain_in n script h ≡ h
full zero script h legal e = refl
full (suc n) script h legal e =
    choice_last (same_length h (run script h round)) (same_length h (h ++ step_of script h (Action.Control true))) _ _ _
    (no_longer h (run script h round) (let b : length (run script h round) ≤ line_bound script = legal_bound script (run script h round) (legal_run script h round legal) in omega arith))
    (no_longer h (h ++ step_of script h (Action.Control true)) (let b : length (h ++ step_of script h (Action.Control true)) ≤ line_bound script = legal_bound script (h ++ step_of script h (Action.Control true)) (legal_step script h (Action.Control true) legal) in omega arith))

choice_same : (a b : Bool) (x x' y y' z : History) → (a ≡ false → x ≡ x') → (a ≡ true → b ≡ false → y ≡ y')
    → (elim a as (λ i. History) [ false ↦ x | true ↦ elim b as (λ i. History) [ false ↦ y | true ↦ z ] ]) ≡ (elim a as (λ i. History) [ false ↦ x' | true ↦ elim b as (λ i. History) [ false ↦ y' | true ↦ z ] ])
choice_same false b x x' y y' z p q = p refl
choice_same true false x x' y y' z p q = q refl refl
choice_same true true x x' y y' z p q = refl

pub fuel_same : (n m : ℕ) (script : Script) (h : History) → Legal script h → line_bound script ≤ n + length h → line_bound script ≤ m + length h → drain_in n script h ≡ drain_in m script h
fuel_same zero m script h legal p q = sym (full m script h legal (omega arith))
fuel_same (suc n) zero script h legal p q = full (suc n) script h legal (omega arith)
fuel_same (suc n) (suc m) script h legal p q =
    choice_same (same_length h (run script h round)) (same_length h (h ++ step_of script h (Action.Control true))) _ _ _ _ h
    (λ a. let more : length h < length (run script h round) = longer h (run script h round) a in fuel_same n m script (run script h round) (legal_run script h round legal) (omega arith) (omega arith))
    (λ a b. let more : length h < length (h ++ step_of script h (Action.Control true)) = longer h (h ++ step_of script h (Action.Control true)) b in
    fuel_same n m script (h ++ step_of script h (Action.Control true)) (legal_step script h (Action.Control true) legal) (omega arith) (omega arith))

pub enough_fuel : (n : ℕ) (script : Script) (h : History) → Legal script h → line_bound script ≤ n + length h → drain_in n script h ≡ drain script h
enough_fuel n script h legal e = fuel_same n (line_bound script + 1) script h legal e (omega arith)

-- THE END

-- no action of the round and no forced control writes a line
pub record Ended (script : Script) (h : History) : Type 0 where
  pub round_still : same_length h (run script h round) ≡ true
  pub control_still : same_length h (h ++ step_of script h (Action.Control true)) ≡ true

ended_in : (n : ℕ) (script : Script) (h : History) → Legal script h → line_bound script < n + length h → Ended script (drain_in n script h)
ended_in zero script h legal e = absurd (let b : length h ≤ line_bound script = legal_bound script h legal in omega arith)
ended_in (suc n) script h legal e =
    drain_cases (Ended script) (same_length h (run script h round)) (same_length h (h ++ step_of script h (Action.Control true))) _ _ _
    (λ a. let more : length h < length (run script h round) = longer h (run script h round) a in ended_in n script (run script h round) (legal_run script h round legal) (omega arith))
    (λ a b. let more : length h < length (h ++ step_of script h (Action.Control true)) = longer h (h ++ step_of script h (Action.Control true)) b in
    ended_in n script (h ++ step_of script h (Action.Control true)) (legal_step script h (Action.Control true) legal) (omega arith))
    (λ a b. record { round_still = a; control_still = b })

pub drain_ended : (script : Script) (h : History) → Legal script h → Ended script (drain script h)
drain_ended script h legal = ended_in (line_bound script + 1) script h legal (omega arith)

abbrev pub AllIdle : Script → History → List Action → Type 0
AllIdle script h [] = Unit {0}
AllIdle script h (a ∷ rest) = (step_of script h a ≡ []) × AllIdle script h rest

run_longer : (script : Script) (h : History) (actions : List Action) → length h ≤ length (run script h actions)
run_longer script h actions = let w = run_extends script h actions in let e : length (run script h actions) ≡ length h + length w.more = ap length w.is_more ∙ length-append h w.more in omega arith

empty_lines : (xs : History) → length xs ≡ 0 → xs ≡ []
empty_lines [] e = refl
empty_lines (x ∷ xs) e = absurd (omega arith)

-- what begins with h and isn't longer is h
pub step_idle : (h xs : History) → length (h ++ xs) ≤ length h → xs ≡ []
step_idle h xs e = empty_lines xs (let l : length (h ++ xs) ≡ length h + length xs = length-append h xs in omega arith)

all_idle : (script : Script) (h : History) (actions : List Action) → length (run script h actions) ≤ length h → AllIdle script h actions
all_idle script h [] e = tt
all_idle script h (a ∷ rest) e = (idle, all_idle script h rest (subst (λ i. length (run script i rest) ≤ length h) same e))
  where
    idle : step_of script h a ≡ []
    idle = step_idle h (step_of script h a) (let low : length (h ++ step_of script h a) ≤ length (run script (h ++ step_of script h a) rest) = run_longer script (h ++ step_of script h a) rest in omega arith)

    same : h ++ step_of script h a ≡ h
    same = ap (λ i. h ++ i) idle ∙ append-nil h

-- every step has a line
pub fits_some : (script : Script) (h lines : History) (act : Act) → Fits script h act lines → lines ≡ [] → ⊥
fits_some script h lines act (takes lane sender frame w e v home) q = cc
fits_some script h lines act (refuses lane sender frame why w e v n) q = cc
fits_some script h lines act (waits_once lane p) q = cc
fits_some script h lines act (closes lane b p n) q = cc
fits_some script h lines act (begins_flight lane k a none e m ha p) q = cc
fits_some script h lines act (cuts_queued lane k c none e m) q = cc
fits_some script h lines act (lands lane k f m p) q = cc
fits_some script h lines act (tries_again lane k f m p) q = cc
fits_some script h lines act (fails lane k kind f m p) q = cc
fits_some script h lines act (cuts_flight lane k c f m) q = cc
fits_some script h lines act (comes_home lane e) q = cc
fits_some script h lines act (opens lane k none e) q = cc
fits_some script h lines act (gives lane k n c e) q = cc
fits_some script h lines act (posts_one lane a r) q = cc
fits_some script h lines act (marks lane k s e) q = cc
fits_some script h lines act (recalls_one lane s e p) q = cc
fits_some script h lines act (clears lane a e) q = cc
fits_some script h lines act (settles s e) q = cc
fits_some script h lines act (orders force due e p d z) q = cc
fits_some script h lines act (orders_forced due e p d q' z) q = cc

-- NOTHING FLIES BETWEEN ACTIONS

abbrev is_no_flight : Entry → Bool
is_no_flight (Flying l k, bytes) = false
is_no_flight (e, bytes) = true

abbrev NoFlights : History → Type 0
NoFlights [] = Unit {0}
NoFlights (e ∷ es) = (is_no_flight e ≡ true) × NoFlights es

line_grounded : (e : Entry) (g : History) (k : ℕ) → is_no_flight e ≡ true → flies g k ≡ false → flies (e ∷ g) k ≡ false
line_grounded (Flying l j, bytes) g k n w = absurd (false≢true n)
line_grounded (Landed l j, bytes) g k n w = and_right (not (j == k)) (flies g k) w
line_grounded (Failed l j kind, bytes) g k n w = and_right (not (j == k)) (flies g k) w
line_grounded (Retried l j m, bytes) g k n w = and_right (not (j == k)) (flies g k) w
line_grounded (Cut l j c, bytes) g k n w = and_right (not (j == k)) (flies g k) w
line_grounded (e, bytes) g k n w = w

lines_grounded : (l : Lane) (lines older : History) → NoFlights lines → (k : ℕ) → flies (filter (concerns l) older) k ≡ false → flies (filter (concerns l) (onto lines older)) k ≡ false
lines_grounded l [] older n k w = w
lines_grounded l (e ∷ es) older n k w = lines_grounded l es (e ∷ older) n.1 k (go (concerns l e))
  where
    go : (b : Bool) → flies (if b then (e ∷ filter (concerns l) older) else filter (concerns l) older) k ≡ false
    go true = line_grounded e (filter (concerns l) older) k n.0 w
    go false = w

grounded_more : (h lines : History) → NoFlights lines → NoneFlies h → NoneFlies (h ++ lines)
grounded_more h lines n w l k = subst (λ r. flies (filter (concerns l) r) k ≡ false) (sym (reverse_onto lines h)) (lines_grounded l lines (reverse h) n k (w l k))

plain_no_flight : (e : Entry) → is_plain e ≡ true → is_no_flight e ≡ true
plain_no_flight (Flying l k, bytes) p = p
plain_no_flight (e, bytes) p = refl

plain_no_flights : (lines : History) → ArePlain lines → NoFlights lines
plain_no_flights [] p = tt
plain_no_flights (e ∷ es) p = (plain_no_flight e p.0, plain_no_flights es p.1)

made_no_flights : (script : Script) (lane : Lane) (g : History) (closed : Option (ℕ × ℕ)) → NoFlights (made_if script lane g closed)
made_no_flights script lane g None = tt
made_no_flights script lane g (Some s) = (refl, tt)

-- every act but Take
abbrev is_taking : Act → Bool
is_taking (Works (Work.Take l)) = true
is_taking act = false

act_grounded : (script : Script) (h lines : History) (act : Act) → is_taking act ≡ false → Fits script h act lines → NoFlights lines
act_grounded script h lines act t (takes lane sender frame w e v home) = (refl, made_no_flights script lane (after_took lane sender (past lane h)) _)
act_grounded script h lines act t (refuses lane sender frame why w e v n) = (refl, tt)
act_grounded script h lines act t (waits_once lane p) = (refl, tt)
act_grounded script h lines act t (closes lane b p n) = (refl, tt)
act_grounded script h lines act t (begins_flight lane k a none e m ha p) = absurd (false≢true (sym t))
act_grounded script h lines act t (cuts_queued lane k c none e m) = (refl, tt)
act_grounded script h lines act t (lands lane k f m p) = (refl, tt)
act_grounded script h lines act t (tries_again lane k f m p) = (refl, tt)
act_grounded script h lines act t (fails lane k kind f m p) = (refl, tt)
act_grounded script h lines act t (cuts_flight lane k c f m) = (refl, tt)
act_grounded script h lines act t (comes_home lane e) = (refl, tt)
act_grounded script h lines act t (opens lane k none e) = (refl, tt)
act_grounded script h lines act t (gives lane k n c e) = (refl, tt)
act_grounded script h lines act t (posts_one lane a r) = (refl, tt)
act_grounded script h lines act t (marks lane k s e) = (refl, tt)
act_grounded script h lines act t (recalls_one lane s e p) = (refl, tt)
act_grounded script h lines act t (clears lane a e) = (refl, tt)
act_grounded script h lines act t (settles s e) = (refl, tt)
act_grounded script h lines act t (orders force due e p d z) = (refl, plain_no_flights _ (order_plain due.control (controls_done (reverse h)) (phase_of script h) (past Outward h) (past Inward h)))
act_grounded script h lines act t (orders_forced due e p d q z) = (refl, plain_no_flights _ (order_plain due.control (controls_done (reverse h)) (phase_of script h) (past Outward h) (past Inward h)))

outcome_grounded : (script : Script) (h : History) (act : Act) (o : Outcome) → is_taking act ≡ false → act_outcome script h act ≡ o → NoneFlies h → NoneFlies (h ++ lines_in o)
outcome_grounded script h act (Writes xs) t e w = grounded_more h xs (act_grounded script h xs act t (outcome_fits script h xs act e)) w
outcome_grounded script h act (Answers a) t e w = rw append-nil w

act_grounds : (script : Script) (h : History) (act : Act) → is_taking act ≡ false → NoneFlies h → NoneFlies (h ++ lines_in (act_outcome script h act))
act_grounds script h act t w = outcome_grounded script h act (act_outcome script h act) t refl w

pub data TakeCase (script : Script) (h : History) (l : Lane) (xs : History) : Type 0 where
  cut_one : (k c : ℕ) → xs ≡ bare (Cut l k c) ∷ [] → TakeCase script h l xs
  flew_one : (k : ℕ) → k < made (past l h) → attempts (past l h) k ≤ 3 → xs ≡ bare (Flying l k) ∷ [] → TakeCase script h l xs

abbrev taker : Act → Option Lane
taker (Works (Work.Take l)) = Some l
taker act = None

take_case : (script : Script) (h lines : History) (act : Act) (l : Lane) → Legal script h → taker act ≡ Some l → Fits script h act lines → TakeCase script h l lines
take_case script h lines act l legal t (begins_flight lane k a none e m ha p) =
    subst (λ i. TakeCase script h i (bare (Flying lane k) ∷ [])) (same_Some lane l t)
    (flew_one k (next_from (past lane h) k ((legal_good script h legal).sound lane) none (queued_waiting (phase_of script h) lane (past lane h) k e)).is_made (legal_attempts script h legal lane k) refl)
take_case script h lines act l legal t (cuts_queued lane k c none e m) = subst (λ i. TakeCase script h i (bare (Cut lane k c) ∷ [])) (same_Some lane l t) (cut_one k c refl)
take_case script h lines act l legal t (takes lane sender frame w e v home) = absurd (none-some l t)
take_case script h lines act l legal t (refuses lane sender frame why w e v n) = absurd (none-some l t)
take_case script h lines act l legal t (waits_once lane p) = absurd (none-some l t)
take_case script h lines act l legal t (closes lane b p n) = absurd (none-some l t)
take_case script h lines act l legal t (lands lane k f m p) = absurd (none-some l t)
take_case script h lines act l legal t (tries_again lane k f m p) = absurd (none-some l t)
take_case script h lines act l legal t (fails lane k kind f m p) = absurd (none-some l t)
take_case script h lines act l legal t (cuts_flight lane k c f m) = absurd (none-some l t)
take_case script h lines act l legal t (comes_home lane e) = absurd (none-some l t)
take_case script h lines act l legal t (opens lane k none e) = absurd (none-some l t)
take_case script h lines act l legal t (gives lane k n c e) = absurd (none-some l t)
take_case script h lines act l legal t (posts_one lane a r) = absurd (none-some l t)
take_case script h lines act l legal t (marks lane k s e) = absurd (none-some l t)
take_case script h lines act l legal t (recalls_one lane s e p) = absurd (none-some l t)
take_case script h lines act l legal t (clears lane a e) = absurd (none-some l t)
take_case script h lines act l legal t (settles s e) = absurd (none-some l t)
take_case script h lines act l legal t (orders force due e p d z) = absurd (none-some l t)
take_case script h lines act l legal t (orders_forced due e p d q z) = absurd (none-some l t)

land_from_list : (script : Script) (l : Lane) (g : History) (k : ℕ) (xs ks : List ℕ) → xs ≡ k ∷ ks → land_from script l g xs ≡ land_marked l (planned script l k) k (attempts g k) (mark g k)
land_from_list script l g k xs ks e = rw e refl

-- the line of a landing right after the flight
landing_line : (script : Script) (h : History) (l : Lane) (k : ℕ) → k < made (past l h) → attempts (past l h) k ≤ 3 → NoneFlies h → LandLine l k (work script (h ++ bare (Flying l k) ∷ []) (Work.Land l))
landing_line script h l k low most w =
    subst (LandLine l k) (sym (ap (λ g. land_flight script l g) (own_past h (bare (Flying l k)) l (same_lane-refl l)) ∙ land_from_list script l (bare (Flying l k) ∷ past l h) k (flying (bare (Flying l k) ∷ past l h)) c.rest c.is))
    (land_line script l k (attempts (bare (Flying l k) ∷ past l h) k) (mark (bare (Flying l k) ∷ past l h) k) most)
  where
    test : ℕ → Bool
    test j = k == j || flies (past l h) j

    c : Cons (flying (bare (Flying l k) ∷ past l h)) k
    c = cons_from (flying (bare (Flying l k) ∷ past l h)) k
        (those_first_is test (made (past l h)) k (rw (eq-eqb k k refl) refl) low (λ j h'. rw (ne_eqb k j (λ e. omega arith)) (w l j)))

move_lines : (script : Script) (h : History) (l : Lane) (k : ℕ) (e : Entry) → ((i : Lane) → concerns i e ≡ same_lane i l) → ((g : History) (j : ℕ) → flies g j ≡ false → flies (e ∷ (bare (Flying l k) ∷ g)) j ≡ false) → NoneFlies h → NoneFlies (h ++ (bare (Flying l k) ∷ e ∷ []))
move_lines script h l k e own grounds w i j =
    rw (past_onto i h (bare (Flying l k) ∷ e ∷ []), filter_of l i (bare (Flying l k) ∷ e ∷ []) (λ q. refl, (own, tt))) (go (same_lane i l))
  where
    go : (b : Bool) → flies (onto (if b then (bare (Flying l k) ∷ e ∷ []) else []) (past i h)) j ≡ false
    go true = grounds (past i h) j (w i j)
    go false = w i j

move_from : (script : Script) (h : History) (l : Lane) (xs : History) → NoneFlies h → TakeCase script h l xs → NoneFlies (h ++ (xs ++ lines_in (work script (h ++ xs) (Work.Land l))))
move_from script h l xs w (cut_one k c e) =
    subst (λ ys. NoneFlies (h ++ (ys ++ lines_in (work script (h ++ ys) (Work.Land l))))) (sym e)
    (subst (λ ys. NoneFlies (h ++ (bare (Cut l k c) ∷ ys))) (sym idle) grounds)
  where
    grounds : NoneFlies (h ++ bare (Cut l k c) ∷ [])
    grounds = grounded_more h (bare (Cut l k c) ∷ []) (refl, tt) w

    idle : lines_in (work script (h ++ bare (Cut l k c) ∷ []) (Work.Land l)) ≡ []
    idle = ap (λ ks. lines_in (land_from script l (past l (h ++ bare (Cut l k c) ∷ [])) ks)) (those_empty (flies (past l (h ++ bare (Cut l k c) ∷ []))) (made (past l (h ++ bare (Cut l k c) ∷ []))) (λ j i. grounds l j))
move_from script h l xs w (flew_one k low most e) =
    subst (λ ys. NoneFlies (h ++ (ys ++ lines_in (work script (h ++ ys) (Work.Land l))))) (sym e)
    (let r = landing_line script h l k low most w in
    subst (λ ys. NoneFlies (h ++ (bare (Flying l k) ∷ ys))) (sym (ap lines_in r.is_line)) (move_lines script h l k r.line r.own r.grounds w))

move_grounds : (script : Script) (h : History) (l : Lane) (o : Outcome) → Legal script h → work script h (Work.Take l) ≡ o → NoneFlies h → NoneFlies (h ++ lines_in (move_after script l h o))
move_grounds script h l (Answers a) legal e w = rw append-nil w
move_grounds script h l (Writes xs) legal e w = move_from script h l xs w (take_case script h xs (Works (Work.Take l)) l legal refl (outcome_fits script h xs (Works (Work.Take l)) e))

pub step_grounds : (script : Script) (h : History) (action : Action) → Legal script h → NoneFlies h → NoneFlies (h ++ step_of script h action)
step_grounds script h (Action.Offer lane sender) legal w = act_grounds script h (Works (Work.Offer lane sender)) refl w
step_grounds script h (Action.Tick lane) legal w = act_grounds script h (Works (Work.Tick lane)) refl w
step_grounds script h (Action.Move lane) legal w = move_grounds script h lane (work script h (Work.Take lane)) legal refl w
step_grounds script h (Action.TxDone lane) legal w = act_grounds script h (Works (Work.TxDone lane)) refl w
step_grounds script h (Action.RxDone lane) legal w = act_grounds script h (Works (Work.RxDone lane)) refl w
step_grounds script h (Action.Deliver lane) legal w = act_grounds script h (Works (Work.Deliver lane)) refl w
step_grounds script h (Action.Refill lane) legal w = act_grounds script h (Works (Work.Refill lane)) refl w
step_grounds script h (Action.Unlink lane) legal w = act_grounds script h (Works (Work.Unlink lane)) refl w
step_grounds script h (Action.ClearHalt lane) legal w = act_grounds script h (Works (Work.ClearHalt lane)) refl w
step_grounds script h (Action.Control force) legal w = act_grounds script h (Controls force) refl w
step_grounds script h Action.Settle legal w = act_grounds script h (Works Work.Settle) refl w

pub run_grounds : (script : Script) (h : History) (actions : List Action) → Legal script h → NoneFlies h → NoneFlies (run script h actions)
run_grounds script h [] legal w = w
run_grounds script h (a ∷ rest) legal w = run_grounds script (h ++ step_of script h a) rest (legal_step script h a legal) (step_grounds script h a legal w)

pub drain_grounds : (n : ℕ) (script : Script) (h : History) → Legal script h → NoneFlies h → NoneFlies (drain_in n script h)
drain_grounds zero script h legal w = w
drain_grounds (suc n) script h legal w =
    drain_cases NoneFlies (same_length h (run script h round)) (same_length h (h ++ step_of script h (Action.Control true))) _ _ _
    (λ a. drain_grounds n script (run script h round) (legal_run script h round legal) (run_grounds script h round legal w))
    (λ a b. drain_grounds n script (h ++ step_of script h (Action.Control true)) (legal_step script h (Action.Control true) legal) (step_grounds script h (Action.Control true) legal w))
    (λ a b. w)

-- DONE

-- an act whose lines are none has no step
pub no_fit : (script : Script) (h lines : History) (act : Act) → Legal script h → lines_in (act_outcome script h act) ≡ [] → Fits script h act lines → ⊥
no_fit script h lines act legal e f = fits_some script h lines act f (sym (ap lines_in (fits_outcome script h lines act (legal_good script h legal) f)) ∙ e)

take_idle : (script : Script) (h : History) (l : Lane) (o : Outcome) → lines_in (move_after script l h o) ≡ [] → lines_in o ≡ []
take_idle script h l (Answers a) e = refl
take_idle script h l (Writes []) e = refl
take_idle script h l (Writes (x ∷ xs)) e = absurd (cc)

abbrev sends : Act → Option (Lane × ℕ)
sends (Works (Work.Offer l s)) = Some (l, s)
sends act = None

pub sends_head : (script : Script) (h lines : History) (act : Act) (l : Lane) (s : ℕ) → act ≡ Works (Work.Offer l s) → Fits script h act lines → s < length (feeds_of script l)
sends_head script h lines act l s t (takes lane sender frame w e v home) = let el : lane ≡ l = cc in let es : sender ≡ s = cc in subst (λ i. s < length (feeds_of script i)) el (subst (λ i. i < length (feeds_of script lane)) es (head_within script lane (past lane h) sender frame e))
sends_head script h lines act l s t (refuses lane sender frame why w e v n) = let el : lane ≡ l = cc in let es : sender ≡ s = cc in subst (λ i. s < length (feeds_of script i)) el (subst (λ i. i < length (feeds_of script lane)) es (head_within script lane (past lane h) sender frame e))
sends_head script h lines act l s t (waits_once lane p) = absurd (cc)
sends_head script h lines act l s t (closes lane b p n) = absurd (cc)
sends_head script h lines act l s t (begins_flight lane k a none e m ha p) = absurd (cc)
sends_head script h lines act l s t (cuts_queued lane k c none e m) = absurd (cc)
sends_head script h lines act l s t (lands lane k f m p) = absurd (cc)
sends_head script h lines act l s t (tries_again lane k f m p) = absurd (cc)
sends_head script h lines act l s t (fails lane k kind f m p) = absurd (cc)
sends_head script h lines act l s t (cuts_flight lane k c f m) = absurd (cc)
sends_head script h lines act l s t (comes_home lane e) = absurd (cc)
sends_head script h lines act l s t (opens lane k none e) = absurd (cc)
sends_head script h lines act l s t (gives lane k n c e) = absurd (cc)
sends_head script h lines act l s t (posts_one lane a r) = absurd (cc)
sends_head script h lines act l s t (marks lane k st e) = absurd (cc)
sends_head script h lines act l s t (recalls_one lane st e p) = absurd (cc)
sends_head script h lines act l s t (clears lane a e) = absurd (cc)
sends_head script h lines act l s t (settles st e) = absurd (cc)
sends_head script h lines act l s t (orders force due e p d z) = absurd (cc)
sends_head script h lines act l s t (orders_forced due e p d q z) = absurd (cc)

-- there are four feeds
pub four_feeds : (script : Script) (l : Lane) → length (feeds_of script l) ≤ 4
four_feeds script Outward = omega arith
four_feeds script Inward = omega arith

pub land_idle : (script : Script) (h : History) (l : Lane) → NoneFlies h → lines_in (work script h (Work.Land l)) ≡ []
land_idle script h l w = ap (λ ks. lines_in (land_from script l (past l h) ks)) (those_empty (flies (past l h)) (made (past l h)) (λ j i. w l j))

module _ (script : Script) (h : History) (legal : Legal script h) (w : NoneFlies h) (idle : AllIdle script h round) (last : step_of script h (Action.Control true) ≡ []) where
  offer_idle : (l : Lane) (s : ℕ) → s < 4 → lines_in (work script h (Work.Offer l s)) ≡ []
  offer_idle Outward zero k = idle.1.1.1.0
  offer_idle Outward (suc zero) k = idle.1.1.1.1.0
  offer_idle Outward (suc (suc zero)) k = idle.1.1.1.1.1.0
  offer_idle Outward (suc (suc (suc zero))) k = idle.1.1.1.1.1.1.0
  offer_idle Inward zero k = idle.1.1.1.1.1.1.1.0
  offer_idle Inward (suc zero) k = idle.1.1.1.1.1.1.1.1.0
  offer_idle Inward (suc (suc zero)) k = idle.1.1.1.1.1.1.1.1.1.0
  offer_idle Inward (suc (suc (suc zero))) k = idle.1.1.1.1.1.1.1.1.1.1.0
  offer_idle l (suc (suc (suc (suc n)))) k = absurd (omega arith)

  none_left : (act : Act) (lines : History) → Fits script h act lines → ⊥
  none_left (Works (Work.Offer l s)) lines f =
      let low : s < length (feeds_of script l) = sends_head script h lines (Works (Work.Offer l s)) l s refl f in
      let high : length (feeds_of script l) ≤ 4 = four_feeds script l in
      no_fit script h lines (Works (Work.Offer l s)) legal (offer_idle l s (omega arith)) f
  none_left (Works (Work.Refill Outward)) lines f = no_fit script h lines _ legal idle.1.0 f
  none_left (Works (Work.Refill Inward)) lines f = no_fit script h lines _ legal idle.1.1.0 f
  none_left (Works (Work.Tick Outward)) lines f = no_fit script h lines _ legal idle.1.1.1.1.1.1.1.1.1.1.1.0 f
  none_left (Works (Work.Tick Inward)) lines f = no_fit script h lines _ legal idle.1.1.1.1.1.1.1.1.1.1.1.1.0 f
  none_left (Works (Work.Take Outward)) lines f = no_fit script h lines _ legal (take_idle script h Outward (work script h (Work.Take Outward)) idle.1.1.1.1.1.1.1.1.1.1.1.1.1.0) f
  none_left (Works (Work.Take Inward)) lines f = no_fit script h lines _ legal (take_idle script h Inward (work script h (Work.Take Inward)) idle.1.1.1.1.1.1.1.1.1.1.1.1.1.1.0) f
  none_left (Works (Work.Land l)) lines f = no_fit script h lines _ legal (land_idle script h l w) f
  none_left (Works (Work.TxDone Outward)) lines f = no_fit script h lines _ legal idle.1.1.1.1.1.1.1.1.1.1.1.1.1.1.1.0 f
  none_left (Works (Work.TxDone Inward)) lines f = no_fit script h lines _ legal idle.1.1.1.1.1.1.1.1.1.1.1.1.1.1.1.1.0 f
  none_left (Works (Work.RxDone Outward)) lines f = no_fit script h lines _ legal idle.1.1.1.1.1.1.1.1.1.1.1.1.1.1.1.1.1.0 f
  none_left (Works (Work.RxDone Inward)) lines f = no_fit script h lines _ legal idle.1.1.1.1.1.1.1.1.1.1.1.1.1.1.1.1.1.1.0 f
  none_left (Works (Work.Deliver Outward)) lines f = no_fit script h lines _ legal idle.1.1.1.1.1.1.1.1.1.1.1.1.1.1.1.1.1.1.1.0 f
  none_left (Works (Work.Deliver Inward)) lines f = no_fit script h lines _ legal idle.1.1.1.1.1.1.1.1.1.1.1.1.1.1.1.1.1.1.1.1.0 f
  none_left (Works (Work.Unlink Outward)) lines f = no_fit script h lines _ legal idle.1.1.1.1.1.1.1.1.1.1.1.1.1.1.1.1.1.1.1.1.1.0 f
  none_left (Works (Work.Unlink Inward)) lines f = no_fit script h lines _ legal idle.1.1.1.1.1.1.1.1.1.1.1.1.1.1.1.1.1.1.1.1.1.1.0 f
  none_left (Works (Work.ClearHalt Outward)) lines f = no_fit script h lines _ legal idle.1.1.1.1.1.1.1.1.1.1.1.1.1.1.1.1.1.1.1.1.1.1.1.0 f
  none_left (Works (Work.ClearHalt Inward)) lines f = no_fit script h lines _ legal idle.1.1.1.1.1.1.1.1.1.1.1.1.1.1.1.1.1.1.1.1.1.1.1.1.0 f
  none_left (Works Work.Settle) lines f = no_fit script h lines _ legal idle.1.1.1.1.1.1.1.1.1.1.1.1.1.1.1.1.1.1.1.1.1.1.1.1.1.0 f
  none_left (Controls false) lines f = no_fit script h lines (Controls false) legal idle.0 f
  none_left (Controls true) lines f = no_fit script h lines (Controls true) legal last f

pub drain_done : (script : Script) (h : History) → Legal script h → NoneFlies h → IsDone script (drain script h)
drain_done script h legal w = record { is_legal = legal'; none_fits = none_left script d legal' (drain_grounds (line_bound script + 1) script h legal w) (all_idle script d round (not_longer d (run script d round) e.round_still)) (step_idle d (step_of script d (Action.Control true)) (not_longer d _ e.control_still)) }
  where
    d : History
    d = drain script h

    legal' : Legal script d
    legal' = legal_drain_in (line_bound script + 1) script h legal

    e : Ended script d
    e = drain_ended script h legal
