-- After a legal history each action has at most one step that fits: the lines of its outcome.
use Rattle.std.proofs.Common.{◌≡◌, ◌≢◌, ℕ, ◌<◌, Bool, true, false, ◌&&◌, ◌==◌, [], ◌∷◌, Option, Some, inl, inr, refl, sym, ◌∙◌, arith, if◌then◌else◌, nat_lt}
use Rattle.std.proofs.lemmas.Bool.{false≢true, ne_eqb, cases_lt, and_parts, ltb-true, lt-ltb, cases_Bool}
use Rattle.un_journal.proofs.Steps.OutcomesFit.{writes_same}
use Rattle.un_journal.proofs.Lists.Passing.{cons_from, those_first_is}
use Rattle.un_frame.specs.declared.params.Lane.{Lane}
use Rattle.un_frame.specs.declared.params.Lane.TheVariants.{Outward, Inward}
use Rattle.un_frame.specs.declared.kinds.Phase.{Phase}
use Rattle.un_frame.specs.declared.kinds.Phase.TheVariants.{Up, Asleep, Stopping, Leaving, Down, Away}
use Rattle.un_frame.specs.declared.params.Params.{Params}
use Rattle.un_frame.specs.declared.kinds.Verdict.{Verdict}
use Rattle.un_frame.specs.declared.kinds.Verdict.TheVariants.{Take, Short, Long, Filtered}
use Rattle.un_frame.specs.Lanes.{packs}
use Rattle.un_frame.specs.Verdict.{verdict_of}
use Rattle.un_journal.specs.Script.{Script, Frame, planned}
use Rattle.un_journal.specs.History.{attempts, History, past, built, flies, flying, first, took_last, made, ends}
use Rattle.un_journal.specs.Lookup.{phase_of, works, is_awake, is_asleep, pending, block_open, tx_home, offer_needs_home, span_after_took}
use Rattle.un_journal.specs.LaneSteps.{Outcome, Writes, Answers, bare}
use Rattle.un_journal.specs.Step.{judge, offer_head, made_if}
use Rattle.un_journal.specs.Sound.{IsSound}
use Rattle.un_journal.proofs.Steps.Landings.{lands_writes, retries_writes, gives_up_writes}
use Rattle.un_journal.specs.Fits.{Act, Fits, takes, refuses, waits_once, closes, begins_flight, cuts_queued, lands, tries_again, fails, cuts_flight, comes_home, opens, gives, posts_one, marks, recalls_one, clears, settles, orders, orders_forced, Legal, act_outcome, after_took}
use Rattle.un_journal.specs.declared.lines.Line.{Line}
use Rattle.un_journal.specs.declared.actions.Answer.{Answer}
use Rattle.un_journal.proofs.Lanes.SerialOrder.{in_order, flight_is}
use Rattle.un_journal.proofs.Lanes.MayFollow.{fresh, quiet_grounded}
use Rattle.un_journal.proofs.Steps.StaySound.{Good, legal_good}

and_zero : (b : Bool) (n : ℕ) → (b ≡ true → 0 < n) → (b && (n == 0)) ≡ false
and_zero true n h = ne_eqb n 0 (λ e. let some : 0 < n = h refl in omega arith)
and_zero false n h = refl

some_zero : (n : ℕ) → 0 < n → (n == 0) ≡ false
some_zero n h = ne_eqb n 0 (λ e. omega arith)

not_busy : (needs : Bool) (home : ℕ) (o : Outcome) → (needs ≡ true → 0 < home) → (if needs && home == 0 then Answers Answer.Busy else o) ≡ o
not_busy needs home o h = rw (and_zero needs home h) refl

-- the flight is the first of the flying transfers
pub flight_first : (g : History) (k : ℕ) → IsSound g → flies g k ≡ true → first (flying g) ≡ Some k
flight_first g k sound f =
    those_first_is (flies g) (made g) k f is_made (λ j h. grounded j h)
  where
    is_made : k < made g
    is_made = elim (cases_lt k (made g)) [ inl h ↦ h | inr h ↦ absurd (false≢true (sym (quiet_grounded g sound k (fresh g sound k h)) ∙ f)) ]

    grounded : (j : ℕ) → j < k → flies g j ≡ false
    grounded j h = elim (cases_Bool (flies g j)) [
      | inl up ↦ absurd (let a : j ≡ ends g = flight_is g sound (in_order g sound) j up in let b : k ≡ ends g = flight_is g sound (in_order g sound) k f in omega arith)
      | inr down ↦ down
    ]

judge_refuses : (script : Script) (lane : Lane) (sender : ℕ) (g : History) (why : Verdict) → why ≢ Verdict.Take → judge script lane sender g why ≡ Writes (bare (Line.Refused lane sender why) ∷ [])
judge_refuses script lane sender g Take n = absurd (n refl)
judge_refuses script lane sender g Short n = refl
judge_refuses script lane sender g Long n = refl
judge_refuses script lane sender g Filtered n = refl

open_built : (params : Params) (lane : Lane) (g : History) → block_open params lane g ≡ true → 0 < built g
open_built params Outward g e = ltb-true 0 (built g) (and_parts (packs params.class Outward) (nat_lt 0 (built g)) (and_parts (packs params.class Outward && nat_lt 0 (built g)) (took_last g) e).0).1
open_built params Inward g e = ltb-true 0 (built g) (and_parts (packs params.class Inward) (nat_lt 0 (built g)) e).1

if_positive : (b : Bool) (n : ℕ) → 0 < (if b then n else 0) → b ≡ true
if_positive true n h = refl
if_positive false n h = absurd (omega arith)

pub pending_built : (params : Params) (lane : Lane) (g : History) → 0 < pending params lane g → 0 < built g
pending_built params Outward g h = open_built params Outward g (if_positive (block_open params Outward g) _ h)
pending_built params Inward g h = absurd (omega arith)

awake_not : (phase : Phase) → is_awake phase ≡ true → is_asleep phase ≡ false
awake_not Up e = refl
awake_not Asleep e = absurd (false≢true e)
awake_not Stopping e = refl
awake_not Leaving e = refl
awake_not Down e = refl
awake_not Away e = refl

awake_works : (phase : Phase) → is_awake phase ≡ true → works phase ≡ true
awake_works phase e = rw e refl

-- over the head as a variable: the made line's bytes speak of the head too, and rewriting there would miss what is folded
offer_takes : (script : Script) (phase : Phase) (lane : Lane) (sender : ℕ) (g : History) (head : Option Frame) (frame : Frame) → head ≡ Some frame → works phase ≡ true → verdict_of script.params lane frame ≡ Verdict.Take
    → (offer_needs_home script.params lane g (span_after_took script lane (after_took lane sender g)) ≡ true → 0 < tx_home script.params lane g)
    → offer_head script phase lane sender g head ≡ Writes (bare (Line.Took lane sender) ∷ made_if script lane (after_took lane sender g) (span_after_took script lane (after_took lane sender g)))
offer_takes script phase lane sender g head frame e w v home = rw (e, w, v) (not_busy _ _ _ home)

pub fits_outcome : (script : Script) (h lines : History) (act : Act) → Good script h → Fits script h act lines → act_outcome script h act ≡ Writes lines
fits_outcome script h lines act good (takes lane sender frame w e v home) = offer_takes script (phase_of script h) lane sender (past lane h) _ frame e w v home
fits_outcome script h lines act good (refuses lane sender frame why w e v n) = rw (e, w, v) (judge_refuses script lane sender (past lane h) why n)
fits_outcome script h lines act good (waits_once lane p) = rw (some_zero _ (pending_built script.params lane (past lane h) p), lt-ltb 0 _ p) refl
fits_outcome script h lines act good (closes lane b p n) = rw (some_zero _ b, p, and_zero _ _ n) refl
fits_outcome script h lines act good (begins_flight lane k a none e m ha p) = let c = cons_from _ k e in rw (none, c.is, m, a, ha, some_zero _ p) refl
fits_outcome script h lines act good (cuts_queued lane k c none e m) = let q = cons_from _ k e in rw (none, q.is, m) refl
fits_outcome script h lines act good (lands lane k f m p) = let c = cons_from _ k (flight_first (past lane h) k (good.sound lane) f) in rw (c.is, m) (lands_writes lane k (attempts (past lane h) k) (planned script lane k) p)
fits_outcome script h lines act good (tries_again lane k f m p) = let c = cons_from _ k (flight_first (past lane h) k (good.sound lane) f) in rw (c.is, m) (retries_writes lane k (attempts (past lane h) k) (planned script lane k) p)
fits_outcome script h lines act good (fails lane k kind f m p) = let c = cons_from _ k (flight_first (past lane h) k (good.sound lane) f) in rw (c.is, m) (gives_up_writes lane k (attempts (past lane h) k) (planned script lane k) kind p)
fits_outcome script h lines act good (cuts_flight lane k c f m) = let q = cons_from _ k (flight_first (past lane h) k (good.sound lane) f) in rw (q.is, m) refl
fits_outcome script h lines act good (comes_home lane e) = rw e refl
fits_outcome script h lines act good (opens lane k none e) = let c = cons_from _ k e in rw (none, c.is) refl
fits_outcome script h lines act good (gives lane k n c e) = let q = cons_from _ n e in rw (c, q.is) refl
fits_outcome script h lines act good (posts_one lane a r) = rw (awake_not (phase_of script h) a, a, some_zero _ r) refl
fits_outcome script h lines act good (marks lane k s e) = let c = cons_from _ k e in rw (s, c.is) refl
fits_outcome script h lines act good (recalls_one lane s e p) = rw (s, e, some_zero _ p) refl
fits_outcome script h lines act good (clears lane a e) = rw (awake_not (phase_of script h) a, a, e) refl
fits_outcome script h lines act good (settles s e) = rw (s, e) refl
fits_outcome script h lines act good (orders force due e p d z) = rw (e, p, d, z) refl
fits_outcome script h lines act good (orders_forced due e p d q z) = rw (e, q, p, d, z) refl

-- at most one step of an action fits
pub one_step : (script : Script) (h : History) (act : Act) (xs ys : History) → Legal script h → Fits script h act xs → Fits script h act ys → xs ≡ ys
one_step script h act xs ys legal f g =
    writes_same xs ys (sym (fits_outcome script h xs act (legal_good script h legal) f) ∙ fits_outcome script h ys act (legal_good script h legal) g)
