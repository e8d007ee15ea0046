-- A legal history falls into steps in one way, so none goes on after one that is done.
use Rattle.std.proofs.Common.{◌≡◌, ℕ, ◌+◌, ◌-◌, List, [], ◌∷◌, ◌++◌, length, Option, Some, None, refl, sym, ap, ◌∙◌, subst, arith, reverse, take, slice_get, append-nil, append_assoc, length-append}
use Rattle.un_frame.specs.declared.params.Lane.{Lane}
use Rattle.un_frame.specs.declared.params.Lane.TheVariants.{Outward, Inward}
use Rattle.un_frame.specs.Wire.{form}
use Rattle.un_journal.specs.declared.lines.Line.{Line}
use Rattle.un_journal.specs.declared.lines.Line.TheVariants.{Took, Made, Gave}
use Rattle.un_journal.specs.declared.controls.Due.{Due}
use Rattle.un_journal.specs.Script.{Script}
use Rattle.un_journal.specs.History.{Entry, History, past, made, current}
use Rattle.un_journal.specs.Lookup.{phase_of, controls_done, built_frames, span_after_took}
use Rattle.un_journal.specs.LaneSteps.{datagram_bytes}
use Rattle.un_journal.specs.Step.{made_if, order_lines}
use Rattle.un_journal.specs.Fits.{Act, Fits, takes, refuses, waits_once, closes, begins_flight, cuts_queued, lands, tries_again, fails, cuts_flight, comes_home, opens, gives, posts_one, marks, recalls_one, clears, settles, orders, orders_forced, Legal, begins, goes_on, IsDone, after_took}
use Rattle.un_journal.proofs.Finish.Drain.{fits_some, Extends, extends_same, extends_more}

-- what follows the first line of a step
abbrev order_tail : Script → History → Option Due → History
order_tail script h None = []
order_tail script h (Some due) = order_lines due.control (controls_done (reverse h)) (phase_of script h) (past Outward h) (past Inward h)

abbrev tail_of : Script → History → Entry → History
tail_of script h (Took l s, bytes) = made_if script l (after_took l s (past l h)) (span_after_took script l (after_took l s (past l h)))
tail_of script h (Line.Control c f, bytes) = order_tail script h (slice_get script.controls (controls_done (reverse h)))
tail_of script h (e, bytes) = []

cons_tail : (script : Script) (h r xs : History) (f e : Entry) → f ∷ r ≡ e ∷ xs → r ≡ tail_of script h f → xs ≡ tail_of script h e
cons_tail script h r xs f e q t =
    let same : f ≡ e = cc in
    let rest : r ≡ xs = cc in
    sym rest ∙ (t ∙ ap (tail_of script h) same)

tail_is : (script : Script) (h lines xs : History) (act : Act) (e : Entry) → Fits script h act lines → lines ≡ e ∷ xs → xs ≡ tail_of script h e
tail_is script h lines xs act e (takes lane sender frame w p v home) q = cons_tail script h _ xs _ e q refl
tail_is script h lines xs act e (refuses lane sender frame why w p v n) q = cons_tail script h _ xs _ e q refl
tail_is script h lines xs act e (waits_once lane p) q = cons_tail script h _ xs _ e q refl
tail_is script h lines xs act e (closes lane b p n) q = cons_tail script h _ xs _ e q refl
tail_is script h lines xs act e (begins_flight lane k a none p m ha po) q = cons_tail script h _ xs _ e q refl
tail_is script h lines xs act e (cuts_queued lane k c none p m) q = cons_tail script h _ xs _ e q refl
tail_is script h lines xs act e (lands lane k f m p) q = cons_tail script h _ xs _ e q refl
tail_is script h lines xs act e (tries_again lane k f m p) q = cons_tail script h _ xs _ e q refl
tail_is script h lines xs act e (fails lane k kind f m p) q = cons_tail script h _ xs _ e q refl
tail_is script h lines xs act e (cuts_flight lane k c f m) q = cons_tail script h _ xs _ e q refl
tail_is script h lines xs act e (comes_home lane p) q = cons_tail script h _ xs _ e q refl
tail_is script h lines xs act e (opens lane k none p) q = cons_tail script h _ xs _ e q refl
tail_is script h lines xs act e (gives lane k n c p) q = cons_tail script h _ xs _ e q refl
tail_is script h lines xs act e (posts_one lane a r) q = cons_tail script h _ xs _ e q refl
tail_is script h lines xs act e (marks lane k s p) q = cons_tail script h _ xs _ e q refl
tail_is script h lines xs act e (recalls_one lane s p po) q = cons_tail script h _ xs _ e q refl
tail_is script h lines xs act e (clears lane a p) q = cons_tail script h _ xs _ e q refl
tail_is script h lines xs act e (settles s p) q = cons_tail script h _ xs _ e q refl
tail_is script h lines xs act e (orders force due p s d z) q = cons_tail script h _ xs _ e q (ap (order_tail script h) (sym p))
tail_is script h lines xs act e (orders_forced due p s d qu z) q = cons_tail script h _ xs _ e q (ap (order_tail script h) (sym p))

-- two steps with one first line are one
same_step : (script : Script) (h xs ys : History) (a b : Act) (e : Entry) → Fits script h a (e ∷ xs) → Fits script h b (e ∷ ys) → xs ≡ ys
same_step script h xs ys a b e f g = tail_is script h (e ∷ xs) xs a e f refl ∙ sym (tail_is script h (e ∷ ys) ys b e g refl)

-- the bytes of the first line of a step
abbrev part_of : Script → Lane → History → ℕ → Option ℕ → List ℕ
part_of script lane g n None = []
part_of script lane g n (Some k) = datagram_bytes script.params g k n

abbrev bytes_of : Script → History → Line → List ℕ
bytes_of script h (Made l k a b) = form script.params (made (past l h)) (take (b - a) (built_frames script l (past l h)))
bytes_of script h (Gave l n) = part_of script l (past l h) n (current (past l h))
bytes_of script h line = []

cons_bytes : (script : Script) (h r xs : History) (f e : Entry) → f ∷ r ≡ e ∷ xs → f.1 ≡ bytes_of script h f.0 → e.1 ≡ bytes_of script h e.0
cons_bytes script h r xs f e q t = let same : f ≡ e = cc in subst (λ i. i.1 ≡ bytes_of script h i.0) same t

bytes_are : (script : Script) (h lines xs : History) (act : Act) (e : Entry) → Fits script h act lines → lines ≡ e ∷ xs → e.1 ≡ bytes_of script h e.0
bytes_are script h lines xs act e (takes lane sender frame w p v home) q = cons_bytes script h _ xs _ e q refl
bytes_are script h lines xs act e (refuses lane sender frame why w p v n) q = cons_bytes script h _ xs _ e q refl
bytes_are script h lines xs act e (waits_once lane p) q = cons_bytes script h _ xs _ e q refl
bytes_are script h lines xs act e (closes lane b p n) q = cons_bytes script h _ xs _ e q refl
bytes_are script h lines xs act e (begins_flight lane k a none p m ha po) q = cons_bytes script h _ xs _ e q refl
bytes_are script h lines xs act e (cuts_queued lane k c none p m) q = cons_bytes script h _ xs _ e q refl
bytes_are script h lines xs act e (lands lane k f m p) q = cons_bytes script h _ xs _ e q refl
bytes_are script h lines xs act e (tries_again lane k f m p) q = cons_bytes script h _ xs _ e q refl
bytes_are script h lines xs act e (fails lane k kind f m p) q = cons_bytes script h _ xs _ e q refl
bytes_are script h lines xs act e (cuts_flight lane k c f m) q = cons_bytes script h _ xs _ e q refl
bytes_are script h lines xs act e (comes_home lane p) q = cons_bytes script h _ xs _ e q refl
bytes_are script h lines xs act e (opens lane k none p) q = cons_bytes script h _ xs _ e q refl
bytes_are script h lines xs act e (gives lane k n c p) q = cons_bytes script h _ xs _ e q (ap (part_of script lane (past lane h) n) (sym c))
bytes_are script h lines xs act e (posts_one lane a r) q = cons_bytes script h _ xs _ e q refl
bytes_are script h lines xs act e (marks lane k s p) q = cons_bytes script h _ xs _ e q refl
bytes_are script h lines xs act e (recalls_one lane s p po) q = cons_bytes script h _ xs _ e q refl
bytes_are script h lines xs act e (clears lane a p) q = cons_bytes script h _ xs _ e q refl
bytes_are script h lines xs act e (settles s p) q = cons_bytes script h _ xs _ e q refl
bytes_are script h lines xs act e (orders force due p s d z) q = cons_bytes script h _ xs _ e q refl
bytes_are script h lines xs act e (orders_forced due p s d qu z) q = cons_bytes script h _ xs _ e q refl

-- and so does the line alone, without its bytes
pub line_fixes : (script : Script) (h xs ys : History) (a b : Act) (line : Line) (bytes other : List ℕ) → Fits script h a ((line, bytes) ∷ xs) → Fits script h b ((line, other) ∷ ys) → (bytes ≡ other) × (xs ≡ ys)
line_fixes script h xs ys a b line bytes other f g =
    let same : bytes ≡ other = bytes_are script h _ xs a (line, bytes) f refl ∙ sym (bytes_are script h _ ys b (line, other) g refl) in
    (same, same_step script h xs ys a b (line, other) (subst (λ i. Fits script h a ((line, i) ∷ xs)) same f) g)

-- FROM A MOMENT ON

pub data Goes (script : Script) : History → History → Type 0 where
  stays : (m : History) → Goes script m m
  steps : (m h lines : History) (act : Act) → Fits script m act lines → Goes script (m ++ lines) h → Goes script m h

goes_more : (script : Script) (m h lines : History) (act : Act) → Goes script m h → Fits script h act lines → Goes script m (h ++ lines)
goes_more script m h lines act (stays i) f = steps i (i ++ lines) lines act f (stays (i ++ lines))
goes_more script m h lines act (steps i j first a g rest) f = steps i (j ++ lines) first a g (goes_more script (i ++ first) j lines act rest f)

legal_goes : (script : Script) (h : History) → Legal script h → Goes script [] h
legal_goes script h begins = stays []
legal_goes script h (goes_on h0 lines act legal fits) = goes_more script [] h0 lines act (legal_goes script h0 legal) fits

goes_extends : (script : Script) (m h : History) → Goes script m h → Extends m h
goes_extends script m h (stays i) = extends_same i
goes_extends script m h (steps i j lines act f rest) = extends_more i lines j (goes_extends script (i ++ lines) j rest)

cancel : (m xs ys : History) → m ++ xs ≡ m ++ ys → xs ≡ ys
cancel [] xs ys e = e
cancel (x ∷ m) xs ys e = cancel m xs ys (cc)

head_same : (e e' : Entry) (xs ys : History) → e ∷ xs ≡ e' ∷ ys → e ≡ e'
head_same e e' xs ys q = cc

tail_same : (e e' : Entry) (xs ys : History) → e ∷ xs ≡ e' ∷ ys → xs ≡ ys
tail_same e e' xs ys q = cc

no_loop : (m rest more : History) (e : Entry) (xs : History) → m ≡ ((m ++ (e ∷ xs)) ++ more) ++ rest → ⊥
no_loop m rest more e xs q =
    let l : length m ≡ length (((m ++ (e ∷ xs)) ++ more) ++ rest) = ap length q in
    let l1 : length (((m ++ (e ∷ xs)) ++ more) ++ rest) ≡ length ((m ++ (e ∷ xs)) ++ more) + length rest = length-append ((m ++ (e ∷ xs)) ++ more) rest in
    let l2 : length ((m ++ (e ∷ xs)) ++ more) ≡ length (m ++ (e ∷ xs)) + length more = length-append (m ++ (e ∷ xs)) more in
    let l3 : length (m ++ (e ∷ xs)) ≡ length m + length (e ∷ xs) = length-append m (e ∷ xs) in omega arith

-- what a history that goes on with e begins with
regroup : (m : History) (e : Entry) (xs more rest : History) → ((m ++ (e ∷ xs)) ++ more) ++ rest ≡ m ++ (e ∷ ((xs ++ more) ++ rest))
regroup m e xs more rest = ap (λ i. i ++ rest) (append_assoc m (e ∷ xs) more) ∙ append_assoc m (e ∷ (xs ++ more)) rest

-- a history that begins with a legal one has it as a moment: its steps after e ∷ xs are those of the other
moment_steps : (script : Script) (m g h rest xs ys : History) (a b : Act) (e e' : Entry) → Fits script m a (e ∷ xs) → Goes script (m ++ (e ∷ xs)) g → Fits script m b (e' ∷ ys) → Goes script (m ++ (e' ∷ ys)) h → h ≡ g ++ rest → Goes script (m ++ (e ∷ xs)) h
moment_steps script m g h rest xs ys a b e e' f on f' on' q = subst (λ i. Goes script (m ++ i) h) (sym same) on'
  where
    w : Extends (m ++ (e ∷ xs)) g
    w = goes_extends script (m ++ (e ∷ xs)) g on

    w' : Extends (m ++ (e' ∷ ys)) h
    w' = goes_extends script (m ++ (e' ∷ ys)) h on'

    tails : e ∷ ((xs ++ w.more) ++ rest) ≡ e' ∷ (ys ++ w'.more)
    tails = cancel m _ _ (sym (regroup m e xs w.more rest) ∙ (sym (q ∙ ap (λ i. i ++ rest) w.is_more) ∙ (w'.is_more ∙ append_assoc m (e' ∷ ys) w'.more)))

    first : e ≡ e'
    first = head_same e e' _ _ tails

    same : e ∷ xs ≡ e' ∷ ys
    same = ap (λ i. i ∷ xs) first ∙ ap (λ i. e' ∷ i) (same_step script m xs ys a b e' (subst (λ i. Fits script m a (i ∷ xs)) first f) f')

moment_on : (script : Script) (m g h rest xs : History) (a : Act) (e : Entry) → Fits script m a (e ∷ xs) → Goes script (m ++ (e ∷ xs)) g → Goes script m h → h ≡ g ++ rest → Goes script (m ++ (e ∷ xs)) h
moment_on script m g h rest xs a e f on (stays i) q = let w = goes_extends script (i ++ (e ∷ xs)) g on in absurd (no_loop i rest w.more e xs (q ∙ ap (λ j. j ++ rest) w.is_more))
moment_on script m g h rest xs a e f on (steps i j [] b f' on') q = absurd (fits_some script i [] b f' refl)
moment_on script m g h rest xs a e f on (steps i j (e' ∷ ys) b f' on') q = moment_steps script i g j rest xs ys a b e e' f on f' on' q

moment : (script : Script) (m g h rest : History) → Goes script m g → Goes script m h → h ≡ g ++ rest → Goes script g h
moment script m g h rest (stays i) to q = to
moment script m g h rest (steps i j [] a f on) to q = absurd (fits_some script i [] a f refl)
moment script m g h rest (steps i j (e ∷ xs) a f on) to q = moment script (i ++ (e ∷ xs)) j h rest on (moment_on script i j h rest xs a e f on to q) q

none_more : (script : Script) (g h rest : History) → ((act : Act) (lines : History) → Fits script g act lines → ⊥) → Goes script g h → h ≡ g ++ rest → rest ≡ []
none_more script g h rest none (stays i) q = sym (cancel i [] rest (append-nil i ∙ q))
none_more script g h rest none (steps i j lines act f on) q = absurd (none act lines f)

-- no legal history goes on after one that is done
pub goes_no_further : (script : Script) (g rest : History) → IsDone script g → Legal script (g ++ rest) → rest ≡ []
goes_no_further script g rest d legal =
    none_more script g (g ++ rest) rest d.none_fits (moment script [] g (g ++ rest) rest (legal_goes script g d.is_legal) (legal_goes script (g ++ rest) legal) refl) refl

-- the step that a legal history goes on with: its lines begin what follows
pub record NextStep (script : Script) (g : History) (e : Entry) (rest : History) : Type 0 where
  pub act : Act
  pub lines : History
  pub fits : Fits script g act (e ∷ lines)
  pub more : History
  pub goes : rest ≡ lines ++ more

next_from : (script : Script) (g h rest : History) (e : Entry) → Goes script g h → h ≡ g ++ (e ∷ rest) → NextStep script g e rest
next_from script g h rest e (stays i) q = absurd (let none : [] ≡ e ∷ rest = cancel i [] (e ∷ rest) (append-nil i ∙ q) in cc)
next_from script g h rest e (steps i j [] act f on) q = absurd (fits_some script i [] act f refl)
next_from script g h rest e (steps i j (e' ∷ xs) act f on) q =
    record { act = act; lines = xs; fits = subst (λ x. Fits script i act (x ∷ xs)) first f; more = w.more; goes = sym (tail_same e' e _ _ tails) }
  where
    w : Extends (i ++ (e' ∷ xs)) j
    w = goes_extends script (i ++ (e' ∷ xs)) j on

    tails : e' ∷ (xs ++ w.more) ≡ e ∷ rest
    tails = cancel i _ _ (sym (append_assoc i (e' ∷ xs) w.more) ∙ (sym w.is_more ∙ q))

    first : e' ≡ e
    first = head_same e' e _ _ tails

-- a legal history that goes on from a legal one does so by a step
pub next_step : (script : Script) (g rest : History) (e : Entry) → Legal script g → Legal script (g ++ e ∷ rest) → NextStep script g e rest
next_step script g rest e legal more =
    next_from script g (g ++ e ∷ rest) rest e (moment script [] g (g ++ e ∷ rest) (e ∷ rest) (legal_goes script g legal) (legal_goes script (g ++ e ∷ rest) more) refl) refl
