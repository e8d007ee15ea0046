-- Every line of a legal history keeps its rule.
use Rattle.std.proofs.Common.{◌≡◌, ℕ, zero, suc, ◌+◌, ◌-◌, ◌<◌, ◌≤◌, Bool, true, false, not, ◌&&◌, ◌||◌, ◌==◌, List, [], ◌∷◌, ◌++◌, Option, Some, None, ◌⊎◌, inl, inr, refl, sym, ap, ◌∙◌, subst, arith, if◌then◌else◌, slice_get, filter, reverse, append-nil, nat_lt, is_some}
use Rattle.std.proofs.lemmas.Bool.{false≢true, eqb-true, and_parts, lt-ltb, ne_eqb}
use Rattle.un_frame.proofs.LaneLemmas.{same_lane-is}
use Rattle.un_frame.specs.declared.params.Lane.{Lane}
use Rattle.un_frame.specs.declared.params.Lane.TheVariants.{Outward, Inward}
use Rattle.un_frame.specs.declared.kinds.Phase.{Phase}
use Rattle.un_frame.specs.declared.kinds.Phase.TheVariants.{Up, Asleep, Stopping, Leaving, Down, Away}
use Rattle.un_frame.specs.Lanes.{same_lane, packs, tx_size, rx_size}
use Rattle.un_journal.specs.declared.lines.Line.{Line}
use Rattle.un_journal.specs.declared.lines.Line.TheVariants.{Marked, Cut, Dropped, Recalled, Settled}
use Rattle.un_journal.specs.declared.controls.Control.{Control as Order}
use Rattle.un_journal.specs.declared.controls.Due.{Due}
use Rattle.un_journal.specs.Script.{Script}
use Rattle.un_journal.specs.History.{Entry, History, past, concerns, those, taken, made, cover, built, posted, flies, waits, mark, told_if}
use Rattle.un_journal.specs.Lookup.{phase_of, phase_after, after_order, after_control, works, is_awake, is_stopping, is_leaving, controls_done, block_open, block_claims, span_after_took, tx_home, rx_home, offer_needs_home, tick_needs_home, deferred, unmarked, is_deferring}
use Rattle.un_journal.specs.LaneSteps.{bare}
use Rattle.un_journal.specs.Step.{made_if, cut_each, marked_each, recalled_each, dropped_built, order_lines, all_home}
use Rattle.un_journal.specs.Fits.{Act, Fits, takes, refuses, waits_once, closes, begins_flight, cuts_queued, lands, tries_again, fails, cuts_flight, comes_home, opens, gives, posts_one, marks, recalls_one, clears, settles, orders, orders_forced, Legal, begins, goes_on, after_took}
use Rattle.un_journal.proofs.Lists.Passing.{those_first}
use Rattle.un_journal.proofs.Lists.NewestFirst.{onto, onto_append, reverse_onto, AllOf, filter_of, newest}
use Rattle.un_journal.proofs.Lanes.GivenOrder.{cover_below}
use Rattle.un_journal.proofs.Steps.StaySound.{legal_good}
use Rattle.un_journal.proofs.Steps.OrderLines.{keeps_phase, is_still_line, AreStill, still_phase, onto_cut, onto_marked, onto_stop, made_of, made_still, order_still, stop_part, order_part, pick, order_filter}
use Rattle.un_journal.specs.Rules.{LaneRule, LinkRule, is_spelled, AllRuled}

-- THE RULES

-- the lines of one lane in one phase
abbrev LaneRuled : Script → Phase → Lane → History → History → Type 0
LaneRuled script phase l [] g = Unit {0}
LaneRuled script phase l (e ∷ es) g = LaneRule script phase l e g × LaneRuled script phase l es (e ∷ g)

lane_append : (script : Script) (phase : Phase) (l : Lane) (xs ys g : History) → LaneRuled script phase l xs g → LaneRuled script phase l ys (onto xs g) → LaneRuled script phase l (xs ++ ys) g
lane_append script phase l [] ys g p q = q
lane_append script phase l (x ∷ xs) ys g p q = (p.0, lane_append script phase l xs ys (x ∷ g) p.1 q)

still_link : (script : Script) (e : Entry) (older : History) → is_still_line e ≡ true → LinkRule script e older
still_link script (Line.Control c f, bytes) older s = absurd (false≢true s)
still_link script (Settled t1 r1 t2 r2, bytes) older s = absurd (false≢true s)
still_link script (e, bytes) older s = tt

head_rule : (script : Script) (phase : Phase) (l : Lane) (b : Bool) (e : Entry) (es g : History) → LaneRuled script phase l (if b then (e ∷ es) else es) g → b ≡ true → LaneRule script phase l e g
head_rule script phase l true e es g r t = r.0
head_rule script phase l false e es g r t = absurd (false≢true t)

rest_rule : (script : Script) (phase : Phase) (l : Lane) (b : Bool) (e : Entry) (es g : History) → LaneRuled script phase l (if b then (e ∷ es) else es) g → LaneRuled script phase l es (if b then (e ∷ g) else g)
rest_rule script phase l true e es g r = r.1
rest_rule script phase l false e es g r = r

ruled_lines : (script : Script) (phase : Phase) (lines older : History) → AreStill lines → phase_after script.controls older ≡ phase → AllRuled script older
    → ((l : Lane) → LaneRuled script phase l (filter (concerns l) lines) (filter (concerns l) older)) → AllRuled script (onto lines older)
ruled_lines script phase [] older s p all f = all
ruled_lines script phase (e ∷ es) older s p all f =
    ruled_lines script phase es (e ∷ older) s.1 (still_phase script.controls e older s.0 ∙ p) (
      record {
        is_bare = (and_parts (keeps_phase e) (is_spelled e) s.0).1;
        of_link = still_link script e older s.0;
        of_lane = λ l c. subst (λ i. LaneRule script i l e (filter (concerns l) older)) (sym p) (head_rule script phase l (concerns l e) e (filter (concerns l) es) (filter (concerns l) older) (f l) c);
      },
      all,
    )
    (λ l. rest_rule script phase l (concerns l e) e (filter (concerns l) es) (filter (concerns l) older) (f l))

of_own : (script : Script) (phase : Phase) (b : Bool) (l lane : Lane) (lines : History) (g : Lane → History) → (b ≡ true → l ≡ lane) → LaneRuled script phase lane lines (g lane) → LaneRuled script phase l (if b then lines else []) (g l)
of_own script phase true l lane lines g same r = subst (λ i. LaneRuled script phase i lines (g i)) (sym (same refl)) r
of_own script phase false l lane lines g same r = tt

-- lines of one lane
own_lines : (script : Script) (lane : Lane) (lines h : History) → AllRuled script (reverse h) → AreStill lines → AllOf lane lines → LaneRuled script (phase_of script h) lane lines (past lane h) → AllRuled script (reverse (h ++ lines))
own_lines script lane lines h all s o r =
    subst (AllRuled script) (sym (reverse_onto lines h))
    (ruled_lines script (phase_of script h) lines (reverse h) s refl all
    (λ l. rw (filter_of lane l lines o) (of_own script (phase_of script h) (same_lane l lane) l lane lines (λ i. past i h) (same_lane-is l lane) r)))

-- MANY LINES

-- these numbers rise from lo to below hi, and none is marked
abbrev pub AreFree : ℕ → ℕ → History → List ℕ → Type 0
AreFree lo hi g [] = Unit {0}
AreFree lo hi g (k ∷ ks) = (lo ≤ k) × (k < hi) × (mark g k ≡ None) × AreFree (k + 1) hi g ks

free_same : (lo hi : ℕ) (g g' : History) (ks : List ℕ) → ((j : ℕ) → lo ≤ j → mark g' j ≡ mark g j) → AreFree lo hi g ks → AreFree lo hi g' ks
free_same lo hi g g' [] same f = tt
free_same lo hi g g' (k ∷ ks) same f = (f.0, f.1, same k f.0 ∙ f.2, free_same (k + 1) hi g g' ks (λ j h. same j (let low : lo ≤ k = f.0 in omega arith)) f.3)

free_append : (lo n : ℕ) (g : History) (xs : List ℕ) → lo ≤ n → AreFree lo n g xs → mark g n ≡ None → AreFree lo (n + 1) g (xs ++ n ∷ [])
free_append lo n g [] h f m = (h, omega arith, m, tt)
free_append lo n g (x ∷ xs) h f m = (f.0, let low : x < n = f.1 in omega arith, f.2, free_append (x + 1) n g xs (let low : x < n = f.1 in omega arith) f.3 m)

free_higher : (lo n : ℕ) (g : History) (xs : List ℕ) → AreFree lo n g xs → AreFree lo (n + 1) g xs
free_higher lo n g [] f = tt
free_higher lo n g (x ∷ xs) f = (f.0, let low : x < n = f.1 in omega arith, f.2, free_higher (x + 1) n g xs f.3)

free_those : (p : ℕ → Bool) (n : ℕ) (g : History) → ((j : ℕ) → p j ≡ true → mark g j ≡ None) → AreFree 0 n g (those p n)
free_those p zero g f = tt
free_those p (suc n) g f = go (p n) refl (free_those p n g f)
  where
    go : (b : Bool) → p n ≡ b → AreFree 0 n g (those p n) → AreFree 0 (suc n) g (those p n ++ (if b then n ∷ [] else []))
    go true e w = subst (λ i. AreFree 0 i g (those p n ++ n ∷ [])) one_more (free_append 0 n g (those p n) (omega arith) w (f n e))
      where
        one_more : n + 1 ≡ suc n
        one_more = omega arith
    go false e w = rw append-nil (subst (λ i. AreFree 0 i g (those p n)) one_more (free_higher 0 n g (those p n) w))
      where
        one_more : n + 1 ≡ suc n
        one_more = omega arith

not_some : (o : Option ℕ) → not (is_some o) ≡ true → o ≡ None
not_some None e = refl
not_some (Some c) e = absurd (false≢true e)

pub unmarked_free : (phase : Phase) (lane : Lane) (g : History) → AreFree 0 (made g) g (unmarked phase lane g)
unmarked_free phase lane g =
    free_those (λ k. (flies g k || (not (is_deferring phase lane) && waits g k)) && not (is_some (mark g k))) (made g) g (λ j e. not_some (mark g j) (and_parts _ (not (is_some (mark g j))) e).1)

other_mark : (k c j : ℕ) (o : Option ℕ) → k + 1 ≤ j → told_if (k == j) c o ≡ o
other_mark k c j o h = rw (ne_eqb k j (λ e. omega arith)) refl

marked_rules : (script : Script) (phase : Phase) (lane : Lane) (c lo hi : ℕ) (ks : List ℕ) (g : History) → AreFree lo hi g ks → hi ≡ made g → LaneRuled script phase lane (marked_each lane c ks) g
marked_rules script phase lane c lo hi [] g f m = tt
marked_rules script phase lane c lo hi (k ∷ ks) g f m = (
  (f.2, let low : k < hi = f.1 in omega arith),
  marked_rules script phase lane c (k + 1) hi ks (bare (Marked lane k c) ∷ g) (free_same (k + 1) hi g (bare (Marked lane k c) ∷ g) ks (λ j h. other_mark k c j (mark g j) h) f.3) m,
)

cut_rules : (script : Script) (phase : Phase) (lane : Lane) (c : ℕ) (ks : List ℕ) (g : History) → LaneRuled script phase lane (cut_each lane c ks) g
cut_rules script phase lane c [] g = tt
cut_rules script phase lane c (k ∷ ks) g = (tt, cut_rules script phase lane c ks (bare (Cut lane k c) ∷ g))

recalled_rules : (script : Script) (phase : Phase) (lane : Lane) (n : ℕ) (g : History) → is_awake phase ≡ false → n ≤ posted g → LaneRuled script phase lane (recalled_each lane n) g
recalled_rules script phase lane zero g a h = tt
recalled_rules script phase lane (suc n) g a h = ((a, omega arith), recalled_rules script phase lane n (bare (Recalled lane) ∷ g) a (omega arith))

dropped_rules : (script : Script) (phase : Phase) (lane : Lane) (c : ℕ) (g g' : History) → works phase ≡ false → taken g' ≡ taken g → LaneRuled script phase lane (dropped_built lane c g) g'
dropped_rules script phase lane c g g' w t = go (built g == 0)
  where
    go : (b : Bool) → LaneRuled script phase lane (if b then [] else (bare (Dropped lane (cover g) (taken g) c) ∷ [])) g'
    go true = tt
    go false = ((w, sym t), tt)

-- A LANE'S PART OF AN ORDER

stop_rules : (script : Script) (after phase : Phase) (l : Lane) (c : ℕ) (g : History) → works after ≡ false → LaneRuled script after l (stop_part l c phase g) g
stop_rules script after phase Outward c g w = lane_append script after Outward _ _ g (cut_rules script after Outward c _ g) (dropped_rules script after Outward c g _ w (onto_cut taken Outward c (λ k i. refl) (deferred phase Outward g) g))
stop_rules script after phase Inward c g w = dropped_rules script after Inward c g g w refl

unplug_rules : (script : Script) (phase : Phase) (l : Lane) (c : ℕ) (g : History) → LaneRuled script Leaving l (order_part Order.Unplug l c phase g) g
unplug_rules script phase l c g =
    lane_append script Leaving l _ _ g (lane_append script Leaving l _ _ g (stop_rules script Leaving phase l c g refl)
    (marked_rules script Leaving l c 0 (made g) (unmarked phase l g) after_stop
    (free_same 0 (made g) g after_stop (unmarked phase l g) (λ j h. onto_stop (λ i. mark i j) l c phase (λ k i. refl) (λ a b i. refl) g) (unmarked_free phase l g))
    (sym (onto_stop made l c phase (λ k i. refl) (λ a b i. refl) g))))
    (recalled_rules script Leaving l (posted g) _ refl (let same : posted (onto (stop_part l c phase g ++ marked_each l c (unmarked phase l g)) g) ≡ posted g = all_posted in omega arith))
  where
    after_stop : History
    after_stop = onto (stop_part l c phase g) g

    all_posted : posted (onto (stop_part l c phase g ++ marked_each l c (unmarked phase l g)) g) ≡ posted g
    all_posted =
        ap posted (onto_append (stop_part l c phase g) (marked_each l c (unmarked phase l g)) g)
        ∙ onto_marked posted l c (λ k i. refl) (unmarked phase l g) after_stop ∙ onto_stop posted l c phase (λ k i. refl) (λ a b i. refl) g

order_rules : (script : Script) (order : Order) (phase : Phase) (l : Lane) (c : ℕ) (g : History) → LaneRuled script (after_order order phase) l (order_part order l c phase g) g
order_rules script Order.Suspend phase Outward c g = tt
order_rules script Order.Suspend phase Inward c g = recalled_rules script Asleep Inward (posted g) g refl (omega arith)
order_rules script Order.Resume phase l c g = tt
order_rules script Order.Up phase l c g = tt
order_rules script (Order.Unlink Outward) phase Outward c g = marked_rules script phase Outward c 0 (made g) _ g (unmarked_free phase Outward g) refl
order_rules script (Order.Unlink Outward) phase Inward c g = tt
order_rules script (Order.Unlink Inward) phase Outward c g = tt
order_rules script (Order.Unlink Inward) phase Inward c g = marked_rules script phase Inward c 0 (made g) _ g (unmarked_free phase Inward g) refl
order_rules script Order.Down phase l c g = stop_rules script Stopping phase l c g refl
order_rules script Order.Unplug phase l c g = unplug_rules script phase l c g

-- EVERY ROW

took_pays : (script : Script) (lane : Lane) (sender : ℕ) (g : History) → (offer_needs_home script.params lane g (span_after_took script lane (after_took lane sender g)) ≡ true → 0 < tx_home script.params lane g)
    → block_claims script.params lane (after_took lane sender g) ≡ true → block_claims script.params lane g ≡ false → 0 < tx_home script.params lane g
took_pays script Outward sender g needs after before = needs (rw before refl)
took_pays script Inward sender g needs after before = absurd (false≢true after)

-- the transfer that an offer makes takes the claimed request, or one that is at home
took_made_pays : (script : Script) (lane : Lane) (sender : ℕ) (s : ℕ × ℕ) (g : History) → cover g ≤ taken g → (offer_needs_home script.params lane g (Some s) ≡ true → 0 < tx_home script.params lane g)
    → (block_claims script.params lane (after_took lane sender g) ≡ true) ⊎ (0 < tx_home script.params lane (after_took lane sender g))
took_made_pays script Inward sender s g c needs = inr (needs refl)
took_made_pays script Outward sender s g c needs = go (packs script.params.class Outward) refl
  where
    some_built : nat_lt 0 (taken g + 1 - cover g) ≡ true
    some_built = lt-ltb 0 (taken g + 1 - cover g) (omega arith)

    go : (b : Bool) → packs script.params.class Outward ≡ b
        → (block_claims script.params Outward (after_took Outward sender g) ≡ true) ⊎ (0 < tx_home script.params Outward (after_took Outward sender g))
    go true e = inl (rw (e, some_built) refl)
    go false e = inr (let home : 0 < tx_home script.params Outward g = needs (rw e refl) in
        let free : block_open script.params Outward g ≡ false = rw e refl in
        let free' : block_open script.params Outward (after_took Outward sender g) ≡ false = rw e refl in
        let same : tx_home script.params Outward (after_took Outward sender g) ≡ tx_home script.params Outward g = rw (free, free') refl in
        omega arith)

made_rules : (script : Script) (phase : Phase) (lane : Lane) (sender : ℕ) (g : History) (closed : Option (ℕ × ℕ)) → cover g ≤ taken g → span_after_took script lane (after_took lane sender g) ≡ closed
    → (offer_needs_home script.params lane g closed ≡ true → 0 < tx_home script.params lane g)
    → LaneRuled script phase lane (made_if script lane (after_took lane sender g) closed) (after_took lane sender g)
made_rules script phase lane sender g None c e needs = tt
made_rules script phase lane sender g (Some s) c e needs = (record { is_form = refl; is_closed = inl e; pays = took_made_pays script lane sender s g c needs }, tt)

tick_pays : (script : Script) (lane : Lane) (g : History) → (tick_needs_home script.params lane g ≡ true → 0 < tx_home script.params lane g) → (block_claims script.params lane g ≡ true) ⊎ (0 < tx_home script.params lane g)
tick_pays script Inward g needs = inr (needs refl)
tick_pays script Outward g needs = go (block_open script.params Outward g) refl
  where
    go : (b : Bool) → block_open script.params Outward g ≡ b → (block_open script.params Outward g ≡ true) ⊎ (0 < tx_home script.params Outward g)
    go true e = inl e
    go false e = inr (needs (rw e refl))

one_ruled : (script : Script) (lane : Lane) (e : Entry) (h : History) → AllRuled script (reverse h) → is_still_line e ≡ true → ((l : Lane) → concerns l e ≡ same_lane l lane) → LaneRule script (phase_of script h) lane e (past lane h) → AllRuled script (reverse (h ++ e ∷ []))
one_ruled script lane e h all s o r = own_lines script lane (e ∷ []) h all (s, tt) (o, tt) (r, tt)

order_ruled : (script : Script) (h : History) (f : Bool) (due : Due) → AllRuled script (reverse h) → slice_get script.controls (controls_done (reverse h)) ≡ Some due
    → (is_stopping (phase_of script h) || is_leaving (phase_of script h)) ≡ false
    → AllRuled script (reverse (h ++ (bare (Line.Control (controls_done (reverse h)) f) ∷ order_lines due.control (controls_done (reverse h)) (phase_of script h) (past Outward h) (past Inward h))))
order_ruled script h f due all e p =
    subst (AllRuled script) (sym (reverse_onto (did ∷ lines) h))
    (ruled_lines script (after_order due.control (phase_of script h)) lines (did ∷ reverse h) (order_still due.control (controls_done (reverse h)) (phase_of script h) (past Outward h) (past Inward h))
    (ap (λ o. after_control o (phase_of script h)) e)
    (record { is_bare = refl; of_link = record { is_next = refl; due = due; is_control = e; is_settled = p }; of_lane = λ l c. absurd (false≢true c) }, all)
    (λ l. subst (λ x. LaneRuled script (after_order due.control (phase_of script h)) l x (past l h)) (sym (order_filter due.control l (controls_done (reverse h)) (phase_of script h) (past Outward h) (past Inward h)))
    (picked l)))
  where
    did : Entry
    did = bare (Line.Control (controls_done (reverse h)) f)

    lines : History
    lines = order_lines due.control (controls_done (reverse h)) (phase_of script h) (past Outward h) (past Inward h)

    picked : (l : Lane) → LaneRuled script (after_order due.control (phase_of script h)) l (order_part due.control l (controls_done (reverse h)) (phase_of script h) (pick l (past Outward h) (past Inward h))) (past l h)
    picked Outward = order_rules script due.control (phase_of script h) Outward (controls_done (reverse h)) (past Outward h)
    picked Inward = order_rules script due.control (phase_of script h) Inward (controls_done (reverse h)) (past Inward h)

pub home_four : (a b c d : ℕ × ℕ) → ((a.0 == a.1) && (b.0 == b.1) && (c.0 == c.1) && (d.0 == d.1)) ≡ true → (a.0 ≡ a.1) × (b.0 ≡ b.1) × (c.0 ≡ c.1) × (d.0 ≡ d.1)
home_four a b c d e =
    let p = and_parts (((a.0 == a.1) && (b.0 == b.1)) && (c.0 == c.1)) (d.0 == d.1) e in
    let q = and_parts ((a.0 == a.1) && (b.0 == b.1)) (c.0 == c.1) p.0 in
    let r = and_parts (a.0 == a.1) (b.0 == b.1) q.0 in
    (eqb-true a.0 a.1 r.0, eqb-true b.0 b.1 r.1, eqb-true c.0 c.1 q.1, eqb-true d.0 d.1 p.1)

settle_ruled : (script : Script) (h : History) → AllRuled script (reverse h) → (is_stopping (phase_of script h) || is_leaving (phase_of script h)) ≡ true → all_home script h ≡ true
    → (t1 r1 t2 r2 : ℕ) → AllRuled script (reverse (h ++ bare (Settled t1 r1 t2 r2) ∷ []))
settle_ruled script h all s e t1 r1 t2 r2 = rw (newest h (bare (Settled t1 r1 t2 r2))) (record { is_bare = refl; of_link = s; of_lane = λ l c. sizes l }, all)
  where
    sizes : (l : Lane) → (tx_home script.params l (past l h) ≡ tx_size script.params l) × (rx_home script.params l (past l h) ≡ rx_size script.params l)
    sizes Outward =
        let r = home_four (tx_home script.params Outward (past Outward h), tx_size script.params Outward) (rx_home script.params Outward (past Outward h), rx_size script.params Outward)
        (tx_home script.params Inward (past Inward h), tx_size script.params Inward) (rx_home script.params Inward (past Inward h), rx_size script.params Inward) e in (r.0, r.1)
    sizes Inward =
        let r = home_four (tx_home script.params Outward (past Outward h), tx_size script.params Outward) (rx_home script.params Outward (past Outward h), rx_size script.params Outward)
        (tx_home script.params Inward (past Inward h), tx_size script.params Inward) (rx_home script.params Inward (past Inward h), rx_size script.params Inward) e in (r.2, r.3)

not_awake : (phase : Phase) → is_stopping phase ≡ true → is_awake phase ≡ false
not_awake Up s = absurd (false≢true s)
not_awake Asleep s = refl
not_awake Stopping s = refl
not_awake Leaving s = refl
not_awake Down s = refl
not_awake Away s = refl

step_ruled : (script : Script) (h lines : History) (act : Act) → ((l : Lane) → cover (past l h) ≤ taken (past l h)) → AllRuled script (reverse h) → Fits script h act lines → AllRuled script (reverse (h ++ lines))
step_ruled script h lines act low all (takes lane sender frame w e v home) =
    own_lines script lane _ h all (refl, made_still script lane (after_took lane sender (past lane h)) _) (λ l. refl, made_of script lane (after_took lane sender (past lane h)) _) (
      record { is_working = w; frame = frame; is_head = e; is_good = v; pays = took_pays script lane sender (past lane h) home },
      made_rules script (phase_of script h) lane sender (past lane h) (span_after_took script lane (after_took lane sender (past lane h))) (low lane) refl home,
    )
step_ruled script h lines act low all (refuses lane sender frame why w e v n) = one_ruled script lane _ h all refl (λ l. refl) (record { frame = frame; is_head = e; is_bad = v; not_taken = n })
step_ruled script h lines act low all (waits_once lane p) = one_ruled script lane _ h all refl (λ l. refl) p
step_ruled script h lines act low all (closes lane b p n) = one_ruled script lane _ h all refl (λ l. refl) (record { is_form = refl; is_closed = inr (refl, refl); pays = tick_pays script lane (past lane h) n })
step_ruled script h lines act low all (begins_flight lane k a none e m ha p) = one_ruled script lane _ h all refl (λ l. refl) (record { is_awake = a; is_unmarked = m; not_halted = ha; is_posted = p })
step_ruled script h lines act low all (cuts_queued lane k c none e m) = one_ruled script lane _ h all refl (λ l. refl) tt
step_ruled script h lines act low all (lands lane k f m p) = one_ruled script lane _ h all refl (λ l. refl) (m, p)
step_ruled script h lines act low all (tries_again lane k f m p) = one_ruled script lane _ h all refl (λ l. refl) (m, p, refl)
step_ruled script h lines act low all (fails lane k kind f m p) = one_ruled script lane _ h all refl (λ l. refl) (m, p)
step_ruled script h lines act low all (cuts_flight lane k c f m) = one_ruled script lane _ h all refl (λ l. refl) tt
step_ruled script h lines act low all (comes_home lane e) = one_ruled script lane _ h all refl (λ l. refl) tt
step_ruled script h lines act low all (opens lane k none e) = one_ruled script lane _ h all refl (λ l. refl) tt
step_ruled script h lines act low all (gives lane k n c e) = one_ruled script lane _ h all refl (λ l. refl) (record { serial = k; is_current = c; is_next = e; is_part = refl })
step_ruled script h lines act low all (posts_one lane a r) = one_ruled script lane _ h all refl (λ l. refl) (a, r)
step_ruled script h lines act low all (marks lane k s e) =
    one_ruled script lane _ h all refl (λ l. refl)
    (let f = those_first (λ j. (flies (past lane h) j || (not (is_deferring (phase_of script h) lane) && waits (past lane h) j)) && not (is_some (mark (past lane h) j))) (made (past lane h)) k e in
    (not_some (mark (past lane h) k) (and_parts _ (not (is_some (mark (past lane h) k))) f.passes).1, f.is_below))
step_ruled script h lines act low all (recalls_one lane s e p) = one_ruled script lane _ h all refl (λ l. refl) (not_awake (phase_of script h) s, p)
step_ruled script h lines act low all (clears lane a e) = one_ruled script lane _ h all refl (λ l. refl) e
step_ruled script h lines act low all (settles s e) = settle_ruled script h all s e _ _ _ _
step_ruled script h lines act low all (orders force due e p d z) = order_ruled script h false due all e p
step_ruled script h lines act low all (orders_forced due e p d q z) = order_ruled script h true due all e p

pub legal_ruled : (script : Script) (h : History) → Legal script h → AllRuled script (reverse h)
legal_ruled script h begins = tt
legal_ruled script h (goes_on h0 lines act legal fits) =
    step_ruled script h0 lines act (λ l. cover_below (past l h0) ((legal_good script h0 legal).sound l)) (legal_ruled script h0 legal) fits

-- what lies below ruled lines is ruled
pub ruled_base : (script : Script) (lines older : History) → AllRuled script (onto lines older) → AllRuled script older
ruled_base script [] older all = all
ruled_base script (e ∷ es) older all = (ruled_base script es (e ∷ older) all).1
