-- Every line of a legal history is licensed at its place.
use Rattle.std.proofs.Common.{◌≡◌, ℕ, zero, suc, ◌+◌, ◌-◌, ◌<◌, ◌≤◌, Bool, true, false, ◌||◌, ◌==◌, List, [], ◌∷◌, ◌++◌, Option, Some, None, ◌⊎◌, inl, inr, refl, sym, ap, ◌∙◌, subst, arith, if◌then◌else◌, slice_get, filter, reverse, append_assoc, append-nil}
use Rattle.std.proofs.lemmas.Bool.{false≢true}
use Rattle.std.proofs.lemmas.List.{reverse-reverse}
use Rattle.un_journal.proofs.Steps.LineRules.{home_four}
use Rattle.un_journal.proofs.Lists.NewestFirst.{newest}
use Rattle.un_journal.proofs.Lists.Counting.{count_more}
use Rattle.un_frame.proofs.LaneLemmas.{same_lane-is}
use Rattle.un_frame.specs.declared.params.Lane.{Lane}
use Rattle.un_frame.specs.declared.params.Lane.TheVariants.{Outward, Inward}
use Rattle.un_frame.specs.declared.kinds.Phase.{Phase}
use Rattle.un_frame.specs.declared.kinds.Phase.TheVariants.{Up, Asleep, Stopping, Leaving, Down, Away}
use Rattle.un_frame.specs.Lanes.{same_lane, tx_size, rx_size}
use Rattle.un_journal.specs.declared.lines.Line.{Line}
use Rattle.un_journal.specs.declared.lines.Line.TheVariants.{Took, Marked, Cut, Dropped, Recalled, Settled}
use Rattle.un_journal.specs.declared.controls.Control.{Control as Order}
use Rattle.un_journal.specs.declared.controls.Due.{Due}
use Rattle.un_journal.specs.Script.{Script}
use Rattle.un_journal.specs.History.{Entry, History, past, concerns, mark, told_if, built, cover, taken}
use Rattle.un_journal.specs.Lookup.{phase_of, phase_after, after_order, after_control, after_settled, controls_done, is_stopping, is_leaving, deferred, tx_home, rx_home}
use Rattle.un_journal.specs.Licence.{Cuts, Stops, IsCause, IsOrder, Licensed, AllLicensed}
use Rattle.un_journal.specs.LaneSteps.{bare}
use Rattle.un_journal.specs.Step.{all_home, made_if, cut_each, marked_each, recalled_each, dropped_built, order_lines}
use Rattle.un_journal.specs.Fits.{Act, Fits, takes, refuses, waits_once, closes, begins_flight, cuts_queued, lands, tries_again, fails, cuts_flight, comes_home, opens, gives, posts_one, marks, recalls_one, clears, settles, orders, orders_forced, Legal, begins, goes_on, after_took}

-- a later line takes no control back
later_done : (e : Entry) (older : History) → controls_done older ≤ controls_done (e ∷ older)
later_done e older = count_more _ e older

later_cause : (script : Script) (e : Entry) (older : History) (c : ℕ) (kind : Order → Type 0) → IsCause script older c kind → IsCause script (e ∷ older) c kind
later_cause script e older c kind w = record { due = w.due; is_control = w.is_control; is_kind = w.is_kind; is_done = let low : c < controls_done older = w.is_done in let more = later_done e older in omega (arith, more) }

is_marked : Entry → Bool
is_marked (Marked l k c, bytes) = true
is_marked (e, bytes) = false

told_some : (b : Bool) (x c : ℕ) (o : Option ℕ) → told_if b x o ≡ Some c → ((b ≡ true) × (x ≡ c)) ⊎ (o ≡ Some c)
told_some true x c o e = inl (refl, (cc))
told_some false x c o e = inr e

marked_if : (script : Script) (b : Bool) (l L : Lane) (j k c c' : ℕ) (bytes : List ℕ) (older g : History) → (b ≡ true → l ≡ L) → IsCause script older c' (λ o. Cuts o L) → (mark g k ≡ Some c → IsCause script older c (λ o. Cuts o l))
    → mark (if b then ((Marked L j c', bytes) ∷ g) else g) k ≡ Some c → IsCause script older c (λ o. Cuts o l)
marked_if script false l L j k c c' bytes older g same w rec e = rec e
marked_if script true l L j k c c' bytes older g same w rec e =
    elim (told_some (j == k) c' c (mark g k) e) [
      | inl r ↦ subst (λ i. IsCause script older c (λ o. Cuts o i)) (sym (same refl)) (subst (λ i. IsCause script older i (λ o. Cuts o L)) r.1 w)
      | inr r ↦ rec r
    ]

other_if : (b : Bool) (e : Entry) (g : History) (k : ℕ) → mark (e ∷ g) k ≡ mark g k → mark (if b then (e ∷ g) else g) k ≡ mark g k
other_if true e g k s = s
other_if false e g k s = refl

-- what a transfer is marked by is a control that was done and cuts its lane
pub mark_cause : (script : Script) (older : History) → AllLicensed script older → (l : Lane) (k c : ℕ) → mark (filter (concerns l) older) k ≡ Some c → IsCause script older c (λ o. Cuts o l)
mark_cause script [] all l k c e = absurd (cc)
mark_cause script ((Marked L j c', bytes) ∷ older) all l k c e =
    later_cause script (Marked L j c', bytes) older c (λ o. Cuts o l)
    (marked_if script (same_lane l L) l L j k c c' bytes older (filter (concerns l) older) (same_lane-is l L) all.0 (mark_cause script older all.1 l k c) e)
mark_cause script (x ∷ older) all l k c e =
    later_cause script x older c (λ o. Cuts o l) (mark_cause script older all.1 l k c (sym (other_if (concerns l x) x (filter (concerns l) older) k refl) ∙ e))

-- a link that stops was stopped by its last control
pub record StoppedBy (script : Script) (older : History) : Type 0 where
  pub due : Due
  pub is_control : slice_get script.controls (controls_done older - 1) ≡ Some due
  pub is_down : due.control ≡ Order.Down
  pub some_done : 0 < controls_done older

down_from : (order : Order) (phase : Phase) → is_stopping phase ≡ false → is_stopping (after_order order phase) ≡ true → order ≡ Order.Down
down_from Order.Suspend phase n e = absurd (false≢true e)
down_from Order.Resume phase n e = absurd (false≢true e)
down_from Order.Up phase n e = absurd (false≢true e)
down_from Order.Unplug phase n e = absurd (false≢true e)
down_from Order.Down phase n e = refl
down_from (Order.Unlink l) phase n e = absurd (false≢true (sym n ∙ e))

never_settled : (phase : Phase) → is_stopping (after_settled phase) ≡ true → ⊥
never_settled Up e = false≢true e
never_settled Asleep e = false≢true e
never_settled Stopping e = false≢true e
never_settled Leaving e = false≢true e
never_settled Down e = false≢true e
never_settled Away e = false≢true e

left_false : (a b : Bool) → (a || b) ≡ false → a ≡ false
left_false true b e = absurd (false≢true (sym e))
left_false false b e = refl

stopped_now : (script : Script) (older : History) (c : ℕ) (f : Bool) (bytes : List ℕ) (w : IsOrder script older c) → is_stopping (after_control (slice_get script.controls c) (phase_after script.controls older)) ≡ true → StoppedBy script ((Line.Control c f, bytes) ∷ older)
stopped_now script older c f bytes w e = record {
  due = w.due;
  is_control = let same : controls_done older + 1 - 1 ≡ c = let n : c ≡ controls_done older = w.is_next in omega arith in rw same w.is_control;
  is_down = down_from w.due.control (phase_after script.controls older) (left_false _ _ w.is_settled) (sym (ap (λ o. is_stopping (after_control o (phase_after script.controls older))) w.is_control) ∙ e);
  some_done = omega arith;
}

pub stopped_by : (script : Script) (older : History) → AllLicensed script older → is_stopping (phase_after script.controls older) ≡ true → StoppedBy script older
stopped_by script [] all e = absurd (false≢true e)
stopped_by script ((Line.Control c f, bytes) ∷ older) all e = stopped_now script older c f bytes all.0 e
stopped_by script ((Settled t1 r1 t2 r2, bytes) ∷ older) all e = absurd (never_settled (phase_after script.controls older) e)
stopped_by script (x ∷ older) all e = let w = stopped_by script older all.1 e in record { due = w.due; is_control = w.is_control; is_down = w.is_down; some_done = w.some_done }

-- LINES OF A STEP

abbrev LicensedAll : Script → History → History → Type 0
LicensedAll script older [] = Unit {0}
LicensedAll script older (e ∷ es) = Licensed script older e × LicensedAll script (e ∷ older) es

licensed_lines : (script : Script) (lines h : History) → AllLicensed script (reverse h) → LicensedAll script (reverse h) lines → AllLicensed script (reverse (h ++ lines))
licensed_lines script [] h all f = rw append-nil all
licensed_lines script (e ∷ es) h all f =
    subst (λ i. AllLicensed script (reverse i)) (append_assoc h (e ∷ []) es)
    (licensed_lines script es (h ++ e ∷ []) (subst (AllLicensed script) (sym (newest h e)) (f.0, all)) (subst (λ o. LicensedAll script o es) (sym (newest h e)) f.1))

-- lines that are licensed wherever control c is done
abbrev Always : Script → ℕ → History → Type 0
Always script c lines = (older : History) → c < controls_done older → LicensedAll script older lines

later_c : (e : Entry) (older : History) (c : ℕ) → c < controls_done older → c < controls_done (e ∷ older)
later_c e older c h = let more = later_done e older in omega (arith, more)

always_go : (script : Script) (c : ℕ) (xs ys : History) (older : History) → c < controls_done older → LicensedAll script older xs → Always script c ys → LicensedAll script older (xs ++ ys)
always_go script c [] ys older h f k = k older h
always_go script c (x ∷ xs) ys older h f k = (f.0, always_go script c xs ys (x ∷ older) (later_c x older c h) f.1 k)

always_append : (script : Script) (c : ℕ) (xs ys : History) → Always script c xs → Always script c ys → Always script c (xs ++ ys)
always_append script c xs ys f k older h = always_go script c xs ys older h (f older h) k

-- what the order allows
cause_at : (script : Script) (c : ℕ) (due : Due) (kind : Order → Type 0) → slice_get script.controls c ≡ Some due → kind due.control → (older : History) → c < controls_done older → IsCause script older c kind
cause_at script c due kind e k older h = record { due = due; is_control = e; is_done = h; is_kind = k }

always_marked : (script : Script) (c : ℕ) (due : Due) (lane : Lane) → slice_get script.controls c ≡ Some due → Cuts due.control lane → (ks : List ℕ) → Always script c (marked_each lane c ks)
always_marked script c due lane e k [] older h = tt
always_marked script c due lane e k (x ∷ ks) older h = (cause_at script c due (λ o. Cuts o lane) e k older h, always_marked script c due lane e k ks (bare (Marked lane x c) ∷ older) (later_c (bare (Marked lane x c)) older c h))

always_cut : (script : Script) (c : ℕ) (due : Due) (lane : Lane) → slice_get script.controls c ≡ Some due → Cuts due.control lane → (ks : List ℕ) → Always script c (cut_each lane c ks)
always_cut script c due lane e k [] older h = tt
always_cut script c due lane e k (x ∷ ks) older h = (cause_at script c due (λ o. Cuts o lane) e k older h, always_cut script c due lane e k ks (bare (Cut lane x c) ∷ older) (later_c (bare (Cut lane x c)) older c h))

always_recalled : (script : Script) (c : ℕ) (lane : Lane) (n : ℕ) → Always script c (recalled_each lane n)
always_recalled script c lane zero older h = tt
always_recalled script c lane (suc n) older h = (tt, always_recalled script c lane n (bare (Recalled lane) ∷ older) (later_c (bare (Recalled lane)) older c h))

always_dropped : (script : Script) (c : ℕ) (due : Due) (lane : Lane) → slice_get script.controls c ≡ Some due → Stops due.control → (g : History) → Always script c (dropped_built lane c g)
always_dropped script c due lane e k g older h = go (built g == 0)
  where
    go : (b : Bool) → LicensedAll script older (if b then [] else (bare (Dropped lane (cover g) (taken g) c) ∷ []))
    go true = tt
    go false = (cause_at script c due Stops e k older h, tt)

always_stop : (script : Script) (c : ℕ) (due : Due) → slice_get script.controls c ≡ Some due → Cuts due.control Outward → Stops due.control → (phase : Phase) (out inw : History)
    → Always script c (cut_each Outward c (deferred phase Outward out) ++ dropped_built Outward c out ++ dropped_built Inward c inw)
always_stop script c due e k s phase out inw =
    always_append script c _ _ (always_append script c _ _ (always_cut script c due Outward e k _) (always_dropped script c due Outward e s out)) (always_dropped script c due Inward e s inw)

cuts_same : (order : Order) (o : Order) (lane : Lane) → order ≡ o → Cuts o lane → Cuts order lane
cuts_same order o lane e k = subst (λ i. Cuts i lane) (sym e) k

always_order : (script : Script) (c : ℕ) (due : Due) → slice_get script.controls c ≡ Some due → (order : Order) → due.control ≡ order → (phase : Phase) (out inw : History) → Always script c (order_lines order c phase out inw)
always_order script c due e Order.Suspend o phase out inw = always_recalled script c Inward _
always_order script c due e Order.Resume o phase out inw = λ older h. tt
always_order script c due e Order.Up o phase out inw = λ older h. tt
always_order script c due e (Order.Unlink Outward) o phase out inw = always_marked script c due Outward e (cuts_same due.control (Order.Unlink Outward) Outward o refl) _
always_order script c due e (Order.Unlink Inward) o phase out inw = always_marked script c due Inward e (cuts_same due.control (Order.Unlink Inward) Inward o refl) _
always_order script c due e Order.Down o phase out inw =
    always_stop script c due e (cuts_same due.control Order.Down Outward o tt) (subst Stops (sym o) tt) phase out inw
always_order script c due e Order.Unplug o phase out inw =
    always_append script c _ _ (always_append script c _ _ (always_append script c _ _ (always_append script c _ _
    (always_stop script c due e (cuts_same due.control Order.Unplug Outward o tt) (subst Stops (sym o) tt) phase out inw)
    (always_marked script c due Outward e (cuts_same due.control Order.Unplug Outward o tt) _))
    (always_marked script c due Inward e (cuts_same due.control Order.Unplug Inward o tt) _))
    (always_recalled script c Outward _)) (always_recalled script c Inward _)

-- EVERY ROW

licensed_one : (script : Script) (h : History) (e : Entry) → AllLicensed script (reverse h) → Licensed script (reverse h) e → AllLicensed script (reverse (h ++ e ∷ []))
licensed_one script h e all f = licensed_lines script (e ∷ []) h all (f, tt)

licensed_order : (script : Script) (h : History) (f : Bool) (due : Due) → AllLicensed script (reverse h) → slice_get script.controls (controls_done (reverse h)) ≡ Some due
    → (is_stopping (phase_of script h) || is_leaving (phase_of script h)) ≡ false
    → AllLicensed script (reverse (h ++ (bare (Line.Control (controls_done (reverse h)) f) ∷ order_lines due.control (controls_done (reverse h)) (phase_of script h) (past Outward h) (past Inward h))))
licensed_order script h f due all e p =
    licensed_lines script (bare (Line.Control (controls_done (reverse h)) f) ∷ order_lines due.control (controls_done (reverse h)) (phase_of script h) (past Outward h) (past Inward h)) h all (
      record { is_next = refl; due = due; is_control = e; is_settled = p },
      always_order script (controls_done (reverse h)) due e due.control refl (phase_of script h) (past Outward h) (past Inward h) (bare (Line.Control (controls_done (reverse h)) f) ∷ reverse h) (omega arith),
    )

made_licensed : (script : Script) (lane : Lane) (g : History) (o : Option (ℕ × ℕ)) (older : History) → LicensedAll script older (made_if script lane g o)
made_licensed script lane g None older = tt
made_licensed script lane g (Some s) older = (tt, tt)

unlink_cause : (script : Script) (h : History) (lane : Lane) → AllLicensed script (reverse h) → is_stopping (phase_of script h) ≡ true → IsCause script (reverse h) (controls_done (reverse h) - 1) (λ o. Cuts o lane)
unlink_cause script h lane all s =
    let w = stopped_by script (reverse h) all s in
    record { due = w.due; is_control = w.is_control; is_kind = cuts_same w.due.control Order.Down lane w.is_down tt; is_done = let some : 0 < controls_done (reverse h) = w.some_done in omega arith }

step_licensed : (script : Script) (h lines : History) (act : Act) → AllLicensed script (reverse h) → Fits script h act lines → AllLicensed script (reverse (h ++ lines))
step_licensed script h lines act all (takes lane sender frame w e v home) = licensed_lines script _ h all (tt, made_licensed script lane (after_took lane sender (past lane h)) _ (bare (Took lane sender) ∷ reverse h))
step_licensed script h lines act all (refuses lane sender frame why w e v n) = licensed_one script h _ all tt
step_licensed script h lines act all (waits_once lane p) = licensed_one script h _ all tt
step_licensed script h lines act all (closes lane b p n) = licensed_one script h _ all tt
step_licensed script h lines act all (begins_flight lane k a none e m ha p) = licensed_one script h _ all tt
step_licensed script h lines act all (cuts_queued lane k c none e m) = licensed_one script h _ all (mark_cause script (reverse h) all lane k c m)
step_licensed script h lines act all (lands lane k f m p) = licensed_one script h _ all tt
step_licensed script h lines act all (tries_again lane k f m p) = licensed_one script h _ all (record { by_plan = (p, refl); is_unmarked = m })
step_licensed script h lines act all (fails lane k kind f m p) = licensed_one script h _ all (record { by_plan = p; is_unmarked = m })
step_licensed script h lines act all (cuts_flight lane k c f m) = licensed_one script h _ all (mark_cause script (reverse h) all lane k c m)
step_licensed script h lines act all (comes_home lane e) = licensed_one script h _ all tt
step_licensed script h lines act all (opens lane k none e) = licensed_one script h _ all tt
step_licensed script h lines act all (gives lane k n c e) = licensed_one script h _ all tt
step_licensed script h lines act all (posts_one lane a r) = licensed_one script h _ all tt
step_licensed script h lines act all (marks lane k s e) = licensed_one script h _ all (unlink_cause script h lane all s)
step_licensed script h lines act all (recalls_one lane s e p) = licensed_one script h _ all tt
step_licensed script h lines act all (clears lane a e) = licensed_one script h _ all tt
step_licensed script h lines act all (settles s e) =
    let r = home_four (tx_home script.params Outward (past Outward h), tx_size script.params Outward) (rx_home script.params Outward (past Outward h), rx_size script.params Outward)
    (tx_home script.params Inward (past Inward h), tx_size script.params Inward) (rx_home script.params Inward (past Inward h), rx_size script.params Inward) e in
    licensed_one script h _ all (record { is_home = subst (λ i. all_home script i ≡ true) (sym (reverse-reverse h)) e; sizes = record { tx_out = r.0; rx_out = r.1; tx_in = r.2; rx_in = r.3 } })
step_licensed script h lines act all (orders force due e p d z) = licensed_order script h false due all e p
step_licensed script h lines act all (orders_forced due e p d q z) = licensed_order script h true due all e p

pub legal_licensed : (script : Script) (h : History) → Legal script h → AllLicensed script (reverse h)
legal_licensed script h begins = tt
legal_licensed script h (goes_on h0 lines act legal fits) = step_licensed script h0 lines act (legal_licensed script h0 legal) fits
