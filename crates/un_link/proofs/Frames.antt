-- What a lane's work leaves of the frames that are built and of the feeds.
use Rattle.std.proofs.Common.{◌≡◌, ℕ, ◌+◌, ◌-◌, ◌<◌, ◌≤◌, Bool, true, false, List, [], ◌∷◌, ◌++◌, drop, Some, refl, sym, ap, ◌∙◌, subst, arith, append-nil}
use Rattle.std.proofs.lemmas.Bool.{false≢true}
use Rattle.std.proofs.lemmas.List.{drop-drop}
use Rattle.std.proofs.lemmas.Option.{same_Some, none-some}
use Rattle.un_frame.proofs.LaneLemmas.{same_lane-refl}
use Rattle.un_frame.specs.declared.params.Lane.{Lane}
use Rattle.un_journal.specs.Script.{Script, Frame}
use Rattle.un_journal.specs.History.{Entry, History, past, concerns, cover, consumed}
use Rattle.un_journal.specs.declared.lines.Line.TheVariants.{Made, Dropped}
use Rattle.un_journal.specs.Sound.{IsSound}
use Rattle.un_journal.proofs.ForLink.{onto, sound_below, own_past, lane_of}
use Rattle.un_journal.specs.Lookup.{built_frames, datagrams}
use Rattle.un_journal.specs.LaneSteps.{Outcome, Writes, Answers, lines_in}
use Rattle.un_journal.specs.Step.{Work, work}
use Rattle.un_journal.specs.Fits.{Works, Fits, takes, refuses, waits_once, closes, begins_flight, cuts_queued, lands, tries_again, fails, cuts_flight, comes_home, opens, gives, posts_one, marks, recalls_one, clears, settles}
use Rattle.un_journal.proofs.Theorems.{outcome_fits}
use Rattle.un_script.specs.declared.cursors.Cursors.{Cursors}
use Rattle.un_script.specs.Cursors.{AreRead}
use Rattle.un_script.proofs.CursorLemmas.{read_same}

-- a work of one lane that offers nothing; one that builds nothing either
abbrev pub is_calm : Work → Bool
is_calm (Work.Offer lane sender) = false
is_calm Work.Settle = false
is_calm w = true

abbrev pub is_plain : Work → Bool
is_plain (Work.Offer lane sender) = false
is_plain (Work.Tick lane) = false
is_plain Work.Settle = false
is_plain w = true

-- the accepted frames and the consumed ones stay, and, where nothing is built, so do those that are built
pub record IsSame (script : Script) (w : Work) (lane : Lane) (g g' : History) : Type 0 where
  pub frames : datagrams script lane g' ≡ datagrams script lane g
  pub feeds : (s : ℕ) → consumed g' s ≡ consumed g s
  pub covers : is_plain w ≡ true → cover g' ≡ cover g

at : (script : Script) (w : Work) (a lane : Lane) (h : History) (e : Entry) → Some a ≡ Some lane → concerns a e ≡ true → IsSame script w a (past a h) (e ∷ past a h) → IsSame script w lane (past lane h) (past lane (h ++ e ∷ []))
at script w a lane h e q c s = subst (λ l. IsSame script w l (past l h) (past l (h ++ e ∷ []))) (same_Some a lane q) (subst (IsSame script w a (past a h)) (sym (own_past h e a c)) s)

calm_fits : (script : Script) (h lines : History) (w : Work) (lane : Lane) → Fits script h (Works w) lines → lane_of w ≡ Some lane → is_calm w ≡ true → IsSame script w lane (past lane h) (past lane (h ++ lines))
calm_fits script h lines w lane (takes l s frame wo e v home) q p = absurd (false≢true p)
calm_fits script h lines w lane (refuses l s frame why wo e v n) q p = absurd (false≢true p)
calm_fits script h lines w lane (waits_once l x) q p = at script w l lane h _ q (same_lane-refl l) (record { frames = refl; feeds = λ s. refl; covers = λ c. refl })
calm_fits script h lines w lane (closes l b x n) q p = at script w l lane h _ q (same_lane-refl l) (record { frames = refl; feeds = λ s. refl; covers = λ c. absurd (false≢true c) })
calm_fits script h lines w lane (begins_flight l k a idle e m ha x) q p = at script w l lane h _ q (same_lane-refl l) (record { frames = refl; feeds = λ s. refl; covers = λ c. refl })
calm_fits script h lines w lane (cuts_queued l k c idle e m) q p = at script w l lane h _ q (same_lane-refl l) (record { frames = refl; feeds = λ s. refl; covers = λ c. refl })
calm_fits script h lines w lane (lands l k f m x) q p = at script w l lane h _ q (same_lane-refl l) (record { frames = refl; feeds = λ s. refl; covers = λ c. refl })
calm_fits script h lines w lane (tries_again l k f m x) q p = at script w l lane h _ q (same_lane-refl l) (record { frames = refl; feeds = λ s. refl; covers = λ c. refl })
calm_fits script h lines w lane (fails l k kind f m x) q p = at script w l lane h _ q (same_lane-refl l) (record { frames = refl; feeds = λ s. refl; covers = λ c. refl })
calm_fits script h lines w lane (cuts_flight l k c f m) q p = at script w l lane h _ q (same_lane-refl l) (record { frames = refl; feeds = λ s. refl; covers = λ c. refl })
calm_fits script h lines w lane (comes_home l e) q p = at script w l lane h _ q (same_lane-refl l) (record { frames = refl; feeds = λ s. refl; covers = λ c. refl })
calm_fits script h lines w lane (opens l k idle e) q p = at script w l lane h _ q (same_lane-refl l) (record { frames = refl; feeds = λ s. refl; covers = λ c. refl })
calm_fits script h lines w lane (gives l k n c e) q p = at script w l lane h _ q (same_lane-refl l) (record { frames = refl; feeds = λ s. refl; covers = λ c. refl })
calm_fits script h lines w lane (posts_one l a r) q p = at script w l lane h _ q (same_lane-refl l) (record { frames = refl; feeds = λ s. refl; covers = λ c. refl })
calm_fits script h lines w lane (marks l k s e) q p = at script w l lane h _ q (same_lane-refl l) (record { frames = refl; feeds = λ s. refl; covers = λ c. refl })
calm_fits script h lines w lane (recalls_one l s e x) q p = at script w l lane h _ q (same_lane-refl l) (record { frames = refl; feeds = λ s. refl; covers = λ c. refl })
calm_fits script h lines w lane (clears l a e) q p = at script w l lane h _ q (same_lane-refl l) (record { frames = refl; feeds = λ s. refl; covers = λ c. refl })
calm_fits script h lines w lane (settles s e) q p = absurd (none-some lane q)

pub calm_same : (script : Script) (h : History) (w : Work) (lane : Lane) → lane_of w ≡ Some lane → is_calm w ≡ true → IsSame script w lane (past lane h) (past lane (h ++ lines_in (work script h w)))
calm_same script h w lane q p = go (work script h w) refl
  where
    go : (o : Outcome) → work script h w ≡ o → IsSame script w lane (past lane h) (past lane (h ++ lines_in o))
    go (Writes lines) e = calm_fits script h lines w lane (outcome_fits script h lines (Works w) e) q p
    go (Answers answer) e = rw append-nil (record { frames = refl; feeds = λ s. refl; covers = λ c. refl })

-- and the feeds are read as far as they were
pub calm_read : (script : Script) (w : Work) (lane : Lane) (h h' : History) (c : Cursors) → lane_of w ≡ Some lane → is_calm w ≡ true → h' ≡ h ++ lines_in (work script h w) → AreRead c (past lane h) → AreRead c (past lane h')
calm_read script w lane h h' c of calm e r = subst (λ i. AreRead c (past lane i)) (sym e) (read_same c (past lane h) (past lane (h ++ lines_in (work script h w))) r (calm_same script h w lane of calm).feeds)

-- what is built stays where nothing is offered and nothing is built
pub plain_frames : (script : Script) (w : Work) (lane : Lane) (g g' : History) → is_plain w ≡ true → IsSame script w lane g g' → built_frames script lane g' ≡ built_frames script lane g
plain_frames script w lane g g' p s = ap (λ n. drop n (datagrams script lane g')) (s.covers p) ∙ ap (drop (cover g)) s.frames

-- COVER

covers_more : (e : Entry) (g : History) → IsSound (e ∷ g) → cover g ≤ cover (e ∷ g)
covers_more (Made l k a b, bytes) g s = let e : a ≡ cover g = s.0.1.begins in let low : a < b = s.0.1.is_some in omega arith
covers_more (Dropped l a b c, bytes) g s = let e : a ≡ cover g = s.0.begins in let low : a < b = s.0.is_some in omega arith
covers_more (e, bytes) g s = omega arith

pub covers_onto : (lines g : History) → IsSound (onto lines g) → cover g ≤ cover (onto lines g)
covers_onto [] g s = omega arith
covers_onto (e ∷ lines) g s =
    let first : cover g ≤ cover (e ∷ g) = covers_more e g (sound_below lines (e ∷ g) s) in
    let rest : cover (e ∷ g) ≤ cover (onto lines (e ∷ g)) = covers_onto lines (e ∷ g) s in
    omega arith

-- of the accepted frames those that are in no transfer are built
pub built_after : (c c' : ℕ) (frames ds : List Frame) → c ≤ c' → frames ≡ drop c ds → drop (c' - c) frames ≡ drop c' ds
built_after c c' frames ds low e =
    let there : c + (c' - c) ≡ c' = omega arith in
    ap (drop (c' - c)) e ∙ (drop-drop (c' - c) c ds ∙ ap (λ n. drop n ds) there)
