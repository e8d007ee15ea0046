-- A path that has accepted a frame stands for the lane with its lines.
use Rattle.std.proofs.Common.{◌≡◌, ℕ, ◌+◌, ◌-◌, ◌<◌, ◌≤◌, min, Bool, true, false, not, ◌&&◌, ◌==◌, eqb, nat_lt, nat_le, List, [], ◌∷◌, ◌++◌, length, Option, Some, None, is_some, option_to_list, inl, inr, refl, sym, ap, ◌∙◌, subst, arith, if◌then◌else◌}
use Rattle.std.proofs.lemmas.Bool.{false≢true, cases_lt}
use Rattle.std.proofs.lemmas.Bool.Decides.{nat_tests}
use Rattle.std.proofs.lemmas.List.{length_push}
use Rattle.un_facts.proofs.Copies.{copies_last}
use Rattle.un_facts.specs.Lists.{copies}
use Rattle.un_facts.specs.Numbers.{one_if}
use Rattle.un_frame.specs.declared.params.Params.{Params}
use Rattle.un_frame.specs.declared.params.Lane.{Lane}
use Rattle.un_frame.specs.declared.params.Lane.TheVariants.{Outward, Inward}
use Rattle.un_frame.specs.Lanes.{packs, tx_size}
use Rattle.un_frame.specs.Cut.{closed_span}
use Rattle.un_req.specs.Request.{Buffer}
use Rattle.un_endpoint.specs.EndOutcomes.{Uses, Claimed, FromHome, Keeps, Makes, IsBusy, with_frame, closing, frame_needs_home, pending_after}
use Rattle.un_endpoint.specs.Ends.{Transmitter}
use Rattle.un_journal.specs.declared.lines.Line.{Line}
use Rattle.un_journal.specs.declared.lines.Line.TheVariants.{Took}
use Rattle.un_journal.specs.declared.actions.Answer.{Answer}
use Rattle.un_journal.specs.LaneSteps.{Writes, Answers, bare, accept}
use Rattle.un_journal.specs.History.{History, taken, made, cover, took_last, waited_after, returned}
use Rattle.un_journal.specs.Lookup.{tx_home, block_claims, offer_needs_home}
use Rattle.un_lane.specs.Way.{Way}
use Rattle.un_lane.specs.Stands.{Stands, claims_when, pends_when}
use Rattle.un_lane.proofs.Placing.{tx_moved}

-- WHAT THE BUILDER AND THE HISTORY SAY OF ONE ANOTHER

abbrev pub open_now : Way → History → Bool
open_now way g = packs way.tx.params.class way.lane && nat_lt 0 (taken g - cover g) && took_last g

claims_is : (params : Params) (lane : Lane) (g : History) → block_claims params lane g ≡ claims_when lane (packs params.class lane && nat_lt 0 (taken g - cover g) && took_last g)
claims_is params Outward g = refl
claims_is params Inward g = refl

claim_count : (c : Option ℕ) → length (option_to_list c) ≡ (if is_some c then 1 else 0)
claim_count None = refl
claim_count (Some n) = refl

pub home_is : (way : Way) (g : History) → Stands way g → tx_home way.tx.params way.lane g ≡ length way.tx.home
home_is way g w =
    let c : length (option_to_list way.tx.builder.claim) ≡ (if block_claims way.tx.params way.lane g then 1 else 0) =
    claim_count way.tx.builder.claim ∙ ap (λ b. if b then 1 else 0) (w.building.claimed ∙ sym (claims_is way.tx.params way.lane g)) in
    let s : made g + length way.tx.home + length (option_to_list way.tx.builder.claim) ≡ tx_size way.tx.params way.lane + returned g = w.counts.tx in
    less (tx_size way.tx.params way.lane + returned g) (made g) (length way.tx.home) (length (option_to_list way.tx.builder.claim)) (if block_claims way.tx.params way.lane g then 1 else 0) s c
  where
    less : (x m h k b : ℕ) → m + h + k ≡ x → k ≡ b → x - (m + b) ≡ h
    less x m h k b e f = omega arith

pub closing_is : (way : Way) (g : History) (frame : List ℕ) → Stands way g
    → closing way.tx frame way.accepted ≡ closed_span way.tx.params way.lane (with_frame way.tx frame) (cover g) (taken g + 1 - 1)
closing_is way g frame w =
    let a : taken g ≡ way.accepted = w.building.accepted_is in
    let b : cover g + length way.tx.builder.frames ≡ taken g = w.building.covered in
    let first : way.accepted - length way.tx.builder.frames ≡ cover g = omega arith in
    let last : way.accepted ≡ taken g + 1 - 1 = omega arith in
    ap (λ l. closed_span way.tx.params l (with_frame way.tx frame) (way.accepted - length way.tx.builder.frames) way.accepted) w.placed.side
    ∙ (ap (λ i. closed_span way.tx.params way.lane (with_frame way.tx frame) i way.accepted) first
    ∙ ap (λ i. closed_span way.tx.params way.lane (with_frame way.tx frame) (cover g) i) last)

pub needs_is : (params : Params) (lane : Lane) (g : History) (claim : Option ℕ) (closed : Option (ℕ × ℕ)) → is_some claim ≡ claims_when lane (packs params.class lane && nat_lt 0 (taken g - cover g) && took_last g)
    → offer_needs_home params lane g closed ≡ frame_needs_home lane claim closed
needs_is params Outward g claim closed e = ap not (sym e)
needs_is params Inward g claim closed e = refl

-- a used request is claimed, or there is one at home
pub uses_can : (lane : Lane) (old new : Transmitter) (n : ℕ) (closed : Option (ℕ × ℕ)) (is_open : Bool) → is_some old.builder.claim ≡ claims_when lane is_open → Uses old new n
    → (frame_needs_home lane old.builder.claim closed && (length old.home == 0)) ≡ false
uses_can lane old new n closed is_open c (FromHome none known e) =
    rw (zero_no (length old.home) (let l : length old.home ≡ length new.home + 1 = ap length e ∙ length_push new.home n in omega arith)) (and_no _)
  where
    zero_no : (m : ℕ) → 0 < m → (m == 0) ≡ false
    zero_no m h = grind (arith, nat_tests)

    and_no : (b : Bool) → (b && false) ≡ false
    and_no true = refl
    and_no false = refl
uses_can Outward old new n closed is_open c (Claimed e same) = rw e refl
uses_can Inward old new n closed is_open c (Claimed e same) = absurd (false≢true (sym c ∙ ap is_some e))

pub offer_busy : (way : Way) (g : History) (t : Transmitter) (sender : ℕ) (frame : List ℕ) → Stands way g → IsBusy way.tx t frame way.accepted
    → accept way.tx.params way.lane sender (with_frame way.tx frame) g ≡ Answers Answer.Busy
offer_busy way g t sender frame w b =
    let needs : offer_needs_home way.tx.params way.lane g (closed_span way.tx.params way.lane (with_frame way.tx frame) (cover g) (taken g + 1 - 1)) ≡ true =
    needs_is way.tx.params way.lane g way.tx.builder.claim _ w.building.claimed
    ∙ (ap (λ c. frame_needs_home way.lane way.tx.builder.claim c) (sym (closing_is way g frame w)) ∙ (ap (λ l. frame_needs_home l way.tx.builder.claim (closing way.tx frame way.accepted)) (sym w.placed.side) ∙ b.needs)) in
    let empty : tx_home way.tx.params way.lane g ≡ 0 = home_is way g w ∙ ap length b.none in
    rw (needs, empty) refl

keep_can : (lane : Lane) (way : Way) (t : Transmitter) (frame : List ℕ) (is_open : Bool) → way.tx.lane ≡ lane → is_some way.tx.builder.claim ≡ claims_when lane is_open → Keeps way.tx t frame way.accepted
    → (frame_needs_home lane way.tx.builder.claim None && (length way.tx.home == 0)) ≡ false
keep_can Outward way t frame is_open side c k = let h = k.host side in uses_can Outward way.tx t h.0 None is_open c h.1
keep_can Inward way t frame is_open side c k = refl

pub offer_keeps : (way : Way) (g : History) (t : Transmitter) (sender : ℕ) (frame : List ℕ) → Stands way g → Keeps way.tx t frame way.accepted
    → accept way.tx.params way.lane sender (with_frame way.tx frame) g ≡ Writes (bare (Took way.lane sender) ∷ [])
offer_keeps way g t sender frame w k =
    let closed : closed_span way.tx.params way.lane (with_frame way.tx frame) (cover g) (taken g + 1 - 1) ≡ None = sym (closing_is way g frame w) ∙ k.stays_open in
    let can : (offer_needs_home way.tx.params way.lane g None && (tx_home way.tx.params way.lane g == 0)) ≡ false =
    ap (λ b. b && (tx_home way.tx.params way.lane g == 0)) (needs_is way.tx.params way.lane g way.tx.builder.claim None w.building.claimed)
    ∙ (ap (λ n. frame_needs_home way.lane way.tx.builder.claim None && (n == 0)) (home_is way g w)
    ∙ keep_can way.lane way t frame _ w.placed.side w.building.claimed k) in
    rw (closed, can) refl

pub offer_makes : (way : Way) (g : History) (t : Transmitter) (sender : ℕ) (frame : List ℕ) (serial : ℕ) (x : Buffer) → Stands way g → serial ≡ way.made → Makes way.tx t frame way.accepted serial x
    → accept way.tx.params way.lane sender (with_frame way.tx frame) g ≡ Writes (bare (Took way.lane sender) ∷ (Line.Made way.lane way.made x.from x.to, x.bytes) ∷ [])
offer_makes way g t sender frame serial x w s m =
    let closed : closed_span way.tx.params way.lane (with_frame way.tx frame) (cover g) (taken g + 1 - 1) ≡ Some m.span = sym (closing_is way g frame w) ∙ m.closed in
    let can : (offer_needs_home way.tx.params way.lane g (Some m.span) && (tx_home way.tx.params way.lane g == 0)) ≡ false =
    ap (λ b. b && (tx_home way.tx.params way.lane g == 0)) (needs_is way.tx.params way.lane g way.tx.builder.claim (Some m.span) w.building.claimed)
    ∙ (ap (λ n. frame_needs_home way.lane way.tx.builder.claim (Some m.span) && (n == 0)) (home_is way g w)
    ∙ uses_can way.lane way.tx t x.number (Some m.span) _ w.building.claimed m.uses) in
    rw (closed, can, w.building.made_is) (rw (m.made.from_is, m.end, m.made.bytes_are, s) refl)

-- A FRAME THAT STAYS IN THE OPEN BLOCK

keep_once : (old new : Transmitter) (n m : ℕ) → Uses old new n → new.builder.claim ≡ Some n
    → copies m old.home + copies m (option_to_list old.builder.claim) ≡ copies m new.home + copies m (option_to_list new.builder.claim)
keep_once old new n m (Claimed e same) c =
    let a : copies m new.home ≡ copies m old.home = ap (copies m) same in
    let b : copies m (option_to_list new.builder.claim) ≡ copies m (option_to_list old.builder.claim) = ap (λ o. copies m (option_to_list o)) (c ∙ sym e) in omega arith
keep_once old new n m (FromHome e known h) c =
    let a : copies m old.home ≡ copies m new.home + one_if (eqb m n) = ap (copies m) h ∙ copies_last m new.home n in
    let b : copies m (option_to_list new.builder.claim) ≡ one_if (eqb m n) + 0 = ap (λ o. copies m (option_to_list o)) c in
    let d : copies m (option_to_list old.builder.claim) ≡ 0 = ap (λ o. copies m (option_to_list o)) e in omega arith

keep_count : (old new : Transmitter) (n : ℕ) → Uses old new n → new.builder.claim ≡ Some n
    → length old.home + length (option_to_list old.builder.claim) ≡ length new.home + length (option_to_list new.builder.claim)
keep_count old new n (Claimed e same) c =
    let a : length new.home ≡ length old.home = ap length same in
    let b : length (option_to_list new.builder.claim) ≡ length (option_to_list old.builder.claim) = ap (λ o. length (option_to_list o)) (c ∙ sym e) in omega arith
keep_count old new n (FromHome e known h) c =
    let a : length old.home ≡ length new.home + 1 = ap length h ∙ length_push new.home n in
    let b : length (option_to_list new.builder.claim) ≡ 1 = ap (λ o. length (option_to_list o)) c in
    let d : length (option_to_list old.builder.claim) ≡ 0 = ap (λ o. length (option_to_list o)) e in omega arith

-- A USED REQUEST LEAVES THE END

pub made_once : (old new : Transmitter) (n m : ℕ) → Uses old new n → new.builder.claim ≡ None
    → copies m old.home + copies m (option_to_list old.builder.claim) ≡ copies m new.home + copies m (option_to_list new.builder.claim) + one_if (eqb m n)
made_once old new n m (Claimed e same) c =
    let a : copies m new.home ≡ copies m old.home = ap (copies m) same in
    let b : copies m (option_to_list new.builder.claim) ≡ 0 = ap (λ o. copies m (option_to_list o)) c in
    let d : copies m (option_to_list old.builder.claim) ≡ one_if (eqb m n) + 0 = ap (λ o. copies m (option_to_list o)) e in omega arith
made_once old new n m (FromHome e known h) c =
    let a : copies m old.home ≡ copies m new.home + one_if (eqb m n) = ap (copies m) h ∙ copies_last m new.home n in
    let b : copies m (option_to_list new.builder.claim) ≡ 0 = ap (λ o. copies m (option_to_list o)) c in
    let d : copies m (option_to_list old.builder.claim) ≡ 0 = ap (λ o. copies m (option_to_list o)) e in omega arith

pub made_count : (old new : Transmitter) (n : ℕ) → Uses old new n → new.builder.claim ≡ None
    → length old.home + length (option_to_list old.builder.claim) ≡ length new.home + length (option_to_list new.builder.claim) + 1
made_count old new n (Claimed e same) c =
    let a : length new.home ≡ length old.home = ap length same in
    let b : length (option_to_list new.builder.claim) ≡ 0 = ap (λ o. length (option_to_list o)) c in
    let d : length (option_to_list old.builder.claim) ≡ 1 = ap (λ o. length (option_to_list o)) e in omega arith
made_count old new n (FromHome e known h) c =
    let a : length old.home ≡ length new.home + 1 = ap length h ∙ length_push new.home n in
    let b : length (option_to_list new.builder.claim) ≡ 0 = ap (λ o. length (option_to_list o)) c in
    let d : length (option_to_list old.builder.claim) ≡ 0 = ap (λ o. length (option_to_list o)) e in omega arith

keep_both : (lane : Lane) (way : Way) (t : Transmitter) (frame : List ℕ) (is_open : Bool) → way.tx.lane ≡ lane → is_some way.tx.builder.claim ≡ claims_when lane is_open → Keeps way.tx t frame way.accepted
    → ((m : ℕ) → copies m way.tx.home + copies m (option_to_list way.tx.builder.claim) ≡ copies m t.home + copies m (option_to_list t.builder.claim))
    × (length way.tx.home + length (option_to_list way.tx.builder.claim) ≡ length t.home + length (option_to_list t.builder.claim))
    × (is_some t.builder.claim ≡ claims_when lane true)
keep_both Outward way t frame is_open side c k =
    let h = k.host side in (λ m. keep_once way.tx t h.0 m h.1 h.2, keep_count way.tx t h.0 h.1 h.2, ap is_some h.2)
keep_both Inward way t frame is_open side c k =
    let h = k.gadget side in
    let none : way.tx.builder.claim ≡ None = no_claim way.tx.builder.claim c in
    (λ m. rw (h.0, h.1, none) refl, rw (h.0, h.1, none) refl, ap is_some h.1)
  where
    no_claim : (o : Option ℕ) → is_some o ≡ false → o ≡ None
    no_claim None e = refl
    no_claim (Some n) e = absurd (false≢true (sym e))

closing_builds : (params : Params) (lane : Lane) (frames : List (List ℕ)) (a n : ℕ) → closed_span params lane frames a n ≡ None → packs params.class lane ≡ true
closing_builds params lane frames a n e = go (packs params.class lane) refl
  where
    go : (b : Bool) → packs params.class lane ≡ b → b ≡ true
    go true t = refl
    go false t = absurd (let x : Some (n, n + 1) ≡ None = rw t at e in cc)

lt_yes : (m n : ℕ) → m < n → nat_lt m n ≡ true
lt_yes m n h = grind (arith, nat_tests)

-- the pending count of a host after a frame that stays in the open block
pend_low : (taken' cover' count : ℕ) (w : ℕ → ℕ) → cover' + count ≡ taken' + 1 → count ≤ 2
    → (if taken' == min (taken' + 1 - 1) (cover' + 1) then 0 else w (min (taken' + 1 - 1) (cover' + 1))) ≡ 0
pend_low taken' cover' count w s h =
    let m : min (taken' + 1 - 1) (cover' + 1) ≡ taken' = omega arith in
    rw (m, same taken') refl
  where
    same : (n : ℕ) → (n == n) ≡ true
    same n = grind (arith, nat_tests)

pend_high : (taken' cover' count : ℕ) (w : ℕ → ℕ) → cover' + count ≡ taken' + 1 → 2 < count
    → (if taken' == min (taken' + 1 - 1) (cover' + 1) then 0 else w (min (taken' + 1 - 1) (cover' + 1))) ≡ w (min (taken' - 1) (cover' + 1))
pend_high taken' cover' count w s h =
    let m : min (taken' + 1 - 1) (cover' + 1) ≡ cover' + 1 = omega arith in
    let n : min (taken' - 1) (cover' + 1) ≡ cover' + 1 = omega arith in
    rw (m, n, other taken' (cover' + 1) (omega arith)) refl
  where
    other : (i j : ℕ) → j < i → (i == j) ≡ false
    other i j l = grind (arith, nat_tests)

pend_keep : (lane : Lane) (is_open : Bool) (claim : Option ℕ) (taken' cover' count pending pending' : ℕ) (w : ℕ → ℕ) → cover' + count ≡ taken' + 1
    → is_some claim ≡ claims_when lane is_open → (lane ≡ Outward → claim ≡ None → count ≤ 2) → pending ≡ pends_when lane is_open (w (min (taken' - 1) (cover' + 1)))
    → pending' ≡ pending_after lane count pending
    → pending' ≡ pends_when lane true (if taken' == min (taken' + 1 - 1) (cover' + 1) then 0 else w (min (taken' + 1 - 1) (cover' + 1)))
pend_keep Inward is_open claim taken' cover' count pending pending' w s c r p e = e
pend_keep Outward is_open claim taken' cover' count pending pending' w s c r p e = elim (cases_lt 2 count) [
  | inr low ↦ e ∙ (rw (le_yes count 2 low, pend_low taken' cover' count w s low) refl)
  | inl high ↦
      let some : is_open ≡ true = claimed claim c (λ n. let l : count ≤ 2 = r refl n in omega arith) in
      e ∙ (rw (le_no count 2 high, pend_high taken' cover' count w s high) (p ∙ ap (λ b. if b then 3 - w (min (taken' - 1) (cover' + 1)) else 0) some))
]
  where
    le_yes : (i j : ℕ) → i ≤ j → nat_le i j ≡ true
    le_yes i j l = grind (arith, nat_tests)

    le_no : (i j : ℕ) → j < i → nat_le i j ≡ false
    le_no i j l = grind (arith, nat_tests)

    claimed : (o : Option ℕ) → is_some o ≡ is_open → (o ≡ None → ⊥) → is_open ≡ true
    claimed None t n = absurd (n refl)
    claimed (Some k) t n = sym t

pub keep_stands : (way : Way) (g : History) (t : Transmitter) (sender : ℕ) (frame : List ℕ) → Stands way g → Keeps way.tx t frame way.accepted
    → Stands (record way { accepted = way.accepted + 1; tx = t }) ((Took way.lane sender, []) ∷ g)
keep_stands way g t sender frame w k =
    let both = keep_both way.lane way t frame _ w.placed.side w.building.claimed k in
    let closed : closed_span way.tx.params way.lane (with_frame way.tx frame) (cover g) (taken g + 1 - 1) ≡ None = sym (closing_is way g frame w) ∙ k.stays_open in
    let builds : packs way.tx.params.class way.lane ≡ true = closing_builds way.tx.params way.lane (with_frame way.tx frame) (cover g) (taken g + 1 - 1) closed in
    let accepted : taken g ≡ way.accepted = w.building.accepted_is in
    let covered : cover g + length way.tx.builder.frames ≡ taken g = w.building.covered in
    let longer : length (way.tx.builder.frames ++ frame ∷ []) ≡ length way.tx.builder.frames + 1 = length_push way.tx.builder.frames frame in
    let longer' : length t.builder.frames ≡ length way.tx.builder.frames + 1 = ap length k.frames_are ∙ longer in
    let is_open : (packs way.tx.params.class way.lane && nat_lt 0 (taken g + 1 - cover g) && true) ≡ true = rw (builds, lt_yes 0 (taken g + 1 - cover g) (omega arith)) refl in
    let stands : Stands (record way { accepted = way.accepted + 1; tx = record way.tx { home = t.home; builder = t.builder } }) ((Took way.lane sender, []) ∷ g) = record {
      sound = (tt, w.sound);
      placed = assumption (
        w.placed,
        tx_moved w.placed (record way.tx { home = t.home; builder = t.builder }) way.bus refl
            (λ n. let e : copies n way.tx.home + copies n (option_to_list way.tx.builder.claim) ≡ copies n t.home + copies n (option_to_list t.builder.claim) = both.0 n in omega arith)
            (let e : length way.tx.home + length (option_to_list way.tx.builder.claim) ≡ length t.home + length (option_to_list t.builder.claim) = both.1 in omega arith),
      );
      building = record {
        accepted_is = omega arith;
        made_is = w.building.made_is;
        covered = omega arith;
        from_is = λ h. k.from_is ∙ (let e : way.accepted - length way.tx.builder.frames ≡ cover g = omega arith in e);
        claimed = both.2 ∙ ap (claims_when way.lane) (sym is_open);
        pends = pend_keep way.lane (packs way.tx.params.class way.lane && nat_lt 0 (taken g - cover g) && took_last g) way.tx.builder.claim (taken g) (cover g) (length (with_frame way.tx frame)) way.tx.builder.pending t.builder.pending (waited_after g)
            (omega arith) w.building.claimed (λ o n. let r : length way.tx.builder.frames ≤ 1 = w.building.remainder o n in omega arith) w.building.pends
            (k.pending_is ∙ ap (λ l. pending_after l (length (with_frame way.tx frame)) way.tx.builder.pending) w.placed.side)
            ∙ ap (λ b. pends_when way.lane b (if taken g == min (taken g + 1 - 1) (cover g + 1) then 0 else waited_after g (min (taken g + 1 - 1) (cover g + 1)))) (sym is_open);
        blocks = λ h. builds;
        remainder = λ o n. absurd (false≢true (sym (ap is_some n) ∙ (both.2 ∙ ap (λ l. claims_when l true) o)));
      };
      queues = w.queues;
      tries = assumption w.tries;
      ends = w.ends;
      counts = record {
        tx = let e : length way.tx.home + length (option_to_list way.tx.builder.claim) ≡ length t.home + length (option_to_list t.builder.claim) = both.1 in let s = w.counts.tx in omega (arith, s);
        rx = w.counts.rx;
      };
      texts = w.texts;
    } in
    subst (λ x. Stands (record way { accepted = way.accepted + 1; tx = x }) ((Took way.lane sender, []) ∷ g)) (sym k.rest) stands
