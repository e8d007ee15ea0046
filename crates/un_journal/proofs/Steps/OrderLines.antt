-- Lines that change no phase, and the lines of a control, of which each lane has its part.
use Rattle.std.proofs.Common.{◌≡◌, ℕ, zero, suc, Bool, true, false, ◌&&◌, ◌==◌, List, [], ◌∷◌, ◌++◌, Option, Some, None, refl, ap, ◌∙◌, if◌then◌else◌, filter, reverse, append-nil}
use Rattle.std.proofs.lemmas.Bool.{false≢true}
use Rattle.un_frame.specs.declared.params.Lane.{Lane}
use Rattle.un_frame.specs.declared.params.Lane.TheVariants.{Outward, Inward}
use Rattle.un_frame.specs.declared.kinds.Phase.{Phase}
use Rattle.un_frame.specs.Lanes.{same_lane}
use Rattle.un_journal.specs.declared.lines.Line.{Line}
use Rattle.un_journal.specs.declared.lines.Line.TheVariants.{Marked, Cut, Dropped, Recalled, Settled}
use Rattle.un_journal.specs.declared.controls.Control.{Control as Order}
use Rattle.un_journal.specs.declared.controls.Due.{Due}
use Rattle.un_journal.specs.Script.{Script}
use Rattle.un_journal.specs.History.{Entry, History, concerns, taken, cover, built, posted}
use Rattle.un_journal.specs.Lookup.{phase_of, phase_after, controls_done, deferred, unmarked}
use Rattle.un_journal.specs.LaneSteps.{bare}
use Rattle.un_journal.specs.Step.{made_if, cut_each, marked_each, recalled_each, dropped_built, order_lines}
use Rattle.un_journal.proofs.Lists.NewestFirst.{onto, onto_append, reverse_onto, filter_append, AllOf, filter_of}
use Rattle.un_journal.specs.Rules.{is_spelled}

-- a line that changes no phase, and has bytes only where it may
abbrev pub keeps_phase : Entry → Bool
keeps_phase (Line.Control c f, bytes) = false
keeps_phase (Settled t1 r1 t2 r2, bytes) = false
keeps_phase (e, bytes) = true

abbrev pub is_still_line : Entry → Bool
is_still_line e = keeps_phase e && is_spelled e

abbrev pub AreStill : History → Type 0
AreStill [] = Unit {0}
AreStill (e ∷ es) = (is_still_line e ≡ true) × AreStill es

pub still_phase : (controls : List Due) (e : Entry) (older : History) → is_still_line e ≡ true → phase_after controls (e ∷ older) ≡ phase_after controls older
still_phase controls (Line.Control c f, bytes) older s = absurd (false≢true s)
still_phase controls (Settled t1 r1 t2 r2, bytes) older s = absurd (false≢true s)
still_phase controls (e, bytes) older s = refl

pub still_phases : (controls : List Due) (lines older : History) → AreStill lines → phase_after controls (onto lines older) ≡ phase_after controls older
still_phases controls [] older s = refl
still_phases controls (e ∷ es) older s = still_phases controls es (e ∷ older) s.1 ∙ still_phase controls e older s.0

pub phase_kept : (script : Script) (h lines : History) → AreStill lines → phase_of script (h ++ lines) ≡ phase_of script h
phase_kept script h lines s = ap (phase_after script.controls) (reverse_onto lines h) ∙ still_phases script.controls lines (reverse h) s

pub still_control : (e : Entry) (g : History) → is_still_line e ≡ true → controls_done (e ∷ g) ≡ controls_done g
still_control (Line.Control c f, bytes) g s = absurd (false≢true s)
still_control (e, bytes) g s = refl

pub controls_onto : (lines g : History) → AreStill lines → controls_done (onto lines g) ≡ controls_done g
controls_onto [] g s = refl
controls_onto (e ∷ lines) g s = controls_onto lines (e ∷ g) s.1 ∙ still_control e g s.0

pub controls_kept : (h lines : History) → AreStill lines → controls_done (reverse (h ++ lines)) ≡ controls_done (reverse h)
controls_kept h lines s = ap controls_done (reverse_onto lines h) ∙ controls_onto lines (reverse h) s

-- what these lines leave as it was
pub onto_cut : {X : Type 0} (f : History → X) (lane : Lane) (c : ℕ) → ((k : ℕ) (g : History) → f (bare (Cut lane k c) ∷ g) ≡ f g) → (ks : List ℕ) (g : History) → f (onto (cut_each lane c ks) g) ≡ f g
onto_cut f lane c same [] g = refl
onto_cut f lane c same (k ∷ ks) g = onto_cut f lane c same ks (bare (Cut lane k c) ∷ g) ∙ same k g

pub onto_marked : {X : Type 0} (f : History → X) (lane : Lane) (c : ℕ) → ((k : ℕ) (g : History) → f (bare (Marked lane k c) ∷ g) ≡ f g) → (ks : List ℕ) (g : History) → f (onto (marked_each lane c ks) g) ≡ f g
onto_marked f lane c same [] g = refl
onto_marked f lane c same (k ∷ ks) g = onto_marked f lane c same ks (bare (Marked lane k c) ∷ g) ∙ same k g

pub onto_recalled : {X : Type 0} (f : History → X) (lane : Lane) → ((g : History) → f (bare (Recalled lane) ∷ g) ≡ f g) → (n : ℕ) (g : History) → f (onto (recalled_each lane n) g) ≡ f g
onto_recalled f lane same zero g = refl
onto_recalled f lane same (suc n) g = onto_recalled f lane same n (bare (Recalled lane) ∷ g) ∙ same g

pub onto_dropped : {X : Type 0} (f : History → X) (lane : Lane) (c : ℕ) → ((a b : ℕ) (g : History) → f (bare (Dropped lane a b c) ∷ g) ≡ f g) → (g g' : History) → f (onto (dropped_built lane c g) g') ≡ f g'
onto_dropped f lane c same g g' = go (built g == 0)
  where
    go : (b : Bool) → f (onto (if b then [] else (bare (Dropped lane (cover g) (taken g) c) ∷ [])) g') ≡ f g'
    go true = refl
    go false = same (cover g) (taken g) g'

-- these are lines of one lane, and change no phase
pub cut_of : (lane : Lane) (c : ℕ) (ks : List ℕ) → AllOf lane (cut_each lane c ks)
cut_of lane c [] = tt
cut_of lane c (k ∷ ks) = (λ l. refl, cut_of lane c ks)

pub marked_of : (lane : Lane) (c : ℕ) (ks : List ℕ) → AllOf lane (marked_each lane c ks)
marked_of lane c [] = tt
marked_of lane c (k ∷ ks) = (λ l. refl, marked_of lane c ks)

pub recalled_of : (lane : Lane) (n : ℕ) → AllOf lane (recalled_each lane n)
recalled_of lane zero = tt
recalled_of lane (suc n) = (λ l. refl, recalled_of lane n)

pub dropped_of : (lane : Lane) (c : ℕ) (g : History) → AllOf lane (dropped_built lane c g)
dropped_of lane c g = go (built g == 0)
  where
    go : (b : Bool) → AllOf lane (if b then [] else (bare (Dropped lane (cover g) (taken g) c) ∷ []))
    go true = tt
    go false = (λ l. refl, tt)

pub still_append : (xs ys : History) → AreStill xs → AreStill ys → AreStill (xs ++ ys)
still_append [] ys p q = q
still_append (x ∷ xs) ys p q = (p.0, still_append xs ys p.1 q)

pub cut_still : (lane : Lane) (c : ℕ) (ks : List ℕ) → AreStill (cut_each lane c ks)
cut_still lane c [] = tt
cut_still lane c (k ∷ ks) = (refl, cut_still lane c ks)

pub marked_still : (lane : Lane) (c : ℕ) (ks : List ℕ) → AreStill (marked_each lane c ks)
marked_still lane c [] = tt
marked_still lane c (k ∷ ks) = (refl, marked_still lane c ks)

pub recalled_still : (lane : Lane) (n : ℕ) → AreStill (recalled_each lane n)
recalled_still lane zero = tt
recalled_still lane (suc n) = (refl, recalled_still lane n)

pub dropped_still : (lane : Lane) (c : ℕ) (g : History) → AreStill (dropped_built lane c g)
dropped_still lane c g = go (built g == 0)
  where
    go : (b : Bool) → AreStill (if b then [] else (bare (Dropped lane (cover g) (taken g) c) ∷ []))
    go true = tt
    go false = (refl, tt)

pub stop_still : (phase : Phase) (c : ℕ) (out inw : History) → AreStill (cut_each Outward c (deferred phase Outward out) ++ dropped_built Outward c out ++ dropped_built Inward c inw)
stop_still phase c out inw = still_append _ _ (still_append _ _ (cut_still Outward c _) (dropped_still Outward c out)) (dropped_still Inward c inw)

pub order_still : (order : Order) (c : ℕ) (phase : Phase) (out inw : History) → AreStill (order_lines order c phase out inw)
order_still Order.Suspend c phase out inw = recalled_still Inward _
order_still Order.Resume c phase out inw = tt
order_still Order.Up c phase out inw = tt
order_still (Order.Unlink Outward) c phase out inw = marked_still Outward c _
order_still (Order.Unlink Inward) c phase out inw = marked_still Inward c _
order_still Order.Down c phase out inw = stop_still phase c out inw
order_still Order.Unplug c phase out inw =
    still_append _ _ (still_append _ _ (still_append _ _ (still_append _ _ (stop_still phase c out inw) (marked_still Outward c _)) (marked_still Inward c _)) (recalled_still Outward _)) (recalled_still Inward _)

abbrev pub stop_part : Lane → ℕ → Phase → History → History
stop_part Outward c phase g = cut_each Outward c (deferred phase Outward g) ++ dropped_built Outward c g
stop_part Inward c phase g = dropped_built Inward c g

abbrev pub order_part : Order → Lane → ℕ → Phase → History → History
order_part Order.Suspend Outward c phase g = []
order_part Order.Suspend Inward c phase g = recalled_each Inward (posted g)
order_part Order.Resume l c phase g = []
order_part Order.Up l c phase g = []
order_part (Order.Unlink Outward) Outward c phase g = marked_each Outward c (unmarked phase Outward g)
order_part (Order.Unlink Outward) Inward c phase g = []
order_part (Order.Unlink Inward) Outward c phase g = []
order_part (Order.Unlink Inward) Inward c phase g = marked_each Inward c (unmarked phase Inward g)
order_part Order.Down l c phase g = stop_part l c phase g
order_part Order.Unplug l c phase g = stop_part l c phase g ++ marked_each l c (unmarked phase l g) ++ recalled_each l (posted g)

pub stop_filter : (l : Lane) (c : ℕ) (phase : Phase) (out inw : History)
    → filter (concerns l) (cut_each Outward c (deferred phase Outward out) ++ dropped_built Outward c out ++ dropped_built Inward c inw)
    ≡ (if same_lane l Outward then cut_each Outward c (deferred phase Outward out) ++ dropped_built Outward c out else []) ++ (if same_lane l Inward then dropped_built Inward c inw else [])
stop_filter l c phase out inw =
    rw (filter_append, filter_append, filter_of Outward l _ (cut_of Outward c (deferred phase Outward out)), filter_of Outward l _ (dropped_of Outward c out), filter_of Inward l _ (dropped_of Inward c inw)) (go l)
  where
    go : (i : Lane) → (if same_lane i Outward then cut_each Outward c (deferred phase Outward out) else []) ++ (if same_lane i Outward then dropped_built Outward c out else []) ++ (if same_lane i Inward then dropped_built Inward c inw else [])
        ≡ (if same_lane i Outward then cut_each Outward c (deferred phase Outward out) ++ dropped_built Outward c out else []) ++ (if same_lane i Inward then dropped_built Inward c inw else [])
    go Outward = refl
    go Inward = refl

pub unplug_filter : (l : Lane) (c : ℕ) (phase : Phase) (out inw : History)
    → filter (concerns l) (order_lines Order.Unplug c phase out inw)
    ≡ ((if same_lane l Outward then cut_each Outward c (deferred phase Outward out) ++ dropped_built Outward c out else []) ++ (if same_lane l Inward then dropped_built Inward c inw else []))
    ++ (if same_lane l Outward then marked_each Outward c (unmarked phase Outward out) else []) ++ (if same_lane l Inward then marked_each Inward c (unmarked phase Inward inw) else [])
    ++ (if same_lane l Outward then recalled_each Outward (posted out) else []) ++ (if same_lane l Inward then recalled_each Inward (posted inw) else [])
unplug_filter l c phase out inw =
    filter_append (concerns l) (stop ++ m1 ++ m2 ++ r1) r2
    ∙ ap (λ x. x ++ filter (concerns l) r2) (filter_append (concerns l) (stop ++ m1 ++ m2) r1
    ∙ ap (λ x. x ++ filter (concerns l) r1) (filter_append (concerns l) (stop ++ m1) m2
    ∙ ap (λ x. x ++ filter (concerns l) m2) (filter_append (concerns l) stop m1
    ∙ ap (λ x. x ++ filter (concerns l) m1) (stop_filter l c phase out inw))))
    ∙ rw (filter_of Outward l m1 (marked_of Outward c _), filter_of Inward l m2 (marked_of Inward c _), filter_of Outward l r1 (recalled_of Outward _), filter_of Inward l r2 (recalled_of Inward _)) refl
  where
    stop : History
    stop = cut_each Outward c (deferred phase Outward out) ++ dropped_built Outward c out ++ dropped_built Inward c inw

    m1 : History
    m1 = marked_each Outward c (unmarked phase Outward out)

    m2 : History
    m2 = marked_each Inward c (unmarked phase Inward inw)

    r1 : History
    r1 = recalled_each Outward (posted out)

    r2 : History
    r2 = recalled_each Inward (posted inw)

abbrev pub pick : Lane → History → History → History
pick Outward out inw = out
pick Inward out inw = inw

pub order_filter : (order : Order) (l : Lane) (c : ℕ) (phase : Phase) (out inw : History) → filter (concerns l) (order_lines order c phase out inw) ≡ order_part order l c phase (pick l out inw)
order_filter Order.Suspend Outward c phase out inw = filter_of Inward Outward _ (recalled_of Inward (posted inw))
order_filter Order.Suspend Inward c phase out inw = filter_of Inward Inward _ (recalled_of Inward (posted inw))
order_filter Order.Resume l c phase out inw = refl
order_filter Order.Up l c phase out inw = refl
order_filter (Order.Unlink Outward) Outward c phase out inw = filter_of Outward Outward _ (marked_of Outward c (unmarked phase Outward out))
order_filter (Order.Unlink Outward) Inward c phase out inw = filter_of Outward Inward _ (marked_of Outward c (unmarked phase Outward out))
order_filter (Order.Unlink Inward) Outward c phase out inw = filter_of Inward Outward _ (marked_of Inward c (unmarked phase Inward inw))
order_filter (Order.Unlink Inward) Inward c phase out inw = filter_of Inward Inward _ (marked_of Inward c (unmarked phase Inward inw))
order_filter Order.Down Outward c phase out inw = stop_filter Outward c phase out inw ∙ append-nil _
order_filter Order.Down Inward c phase out inw = stop_filter Inward c phase out inw
order_filter Order.Unplug Outward c phase out inw = unplug_filter Outward c phase out inw ∙ rw (append-nil, append-nil, append-nil) refl
order_filter Order.Unplug Inward c phase out inw = unplug_filter Inward c phase out inw ∙ rw (append-nil, append-nil) refl

-- a stop changes no mark, no count of transfers and nothing posted
pub onto_stop : {X : Type 0} (f : History → X) (l : Lane) (c : ℕ) (phase : Phase) → ((k : ℕ) (g : History) → f (bare (Cut l k c) ∷ g) ≡ f g) → ((a b : ℕ) (g : History) → f (bare (Dropped l a b c) ∷ g) ≡ f g)
    → (g : History) → f (onto (stop_part l c phase g) g) ≡ f g
onto_stop f Outward c phase p q g =
    ap f (onto_append (cut_each Outward c (deferred phase Outward g)) (dropped_built Outward c g) g)
    ∙ onto_dropped f Outward c q g (onto (cut_each Outward c (deferred phase Outward g)) g) ∙ onto_cut f Outward c p (deferred phase Outward g) g
onto_stop f Inward c phase p q g = onto_dropped f Inward c q g g

pub made_still : (script : Script) (lane : Lane) (g : History) (closed : Option (ℕ × ℕ)) → AreStill (made_if script lane g closed)
made_still script lane g None = tt
made_still script lane g (Some s) = (refl, tt)

pub made_of : (script : Script) (lane : Lane) (g : History) (closed : Option (ℕ × ℕ)) → AllOf lane (made_if script lane g closed)
made_of script lane g None = tt
made_of script lane g (Some s) = (λ l. refl, tt)
