-- The sums of a lane: every request is at home or out, and none is counted twice.
use Rattle.std.proofs.Common.{◌≡◌, ℕ, suc, ◌+◌, ◌-◌, ◌<◌, ◌≤◌, Bool, true, false, not, ◌&&◌, ◌||◌, ◌==◌, List, [], ◌∷◌, length, ◌⊎◌, inl, inr, refl, sym, ap, ◌∙◌, subst, arith, if◌then◌else◌, filter, reverse, nat_lt}
use Rattle.std.proofs.lemmas.Bool.{false≢true, eq-eqb, ne_eqb, cases_lt, and_parts, or_right, and_from}
use Rattle.un_facts.proofs.Booleans.{and_false}
use Rattle.std.proofs.lemmas.Bool.Decides.{nat_tests}
use Rattle.un_journal.proofs.Lists.Passing.{those_empty, those_count, those_less, those_longer}
use Rattle.un_facts.specs.Lists.{is_empty}
use Rattle.un_facts.specs.Numbers.{one_if}
use Rattle.un_frame.specs.declared.params.Lane.{Lane}
use Rattle.un_frame.specs.declared.params.Lane.TheVariants.{Outward, Inward}
use Rattle.un_frame.specs.declared.params.Params.{Params}
use Rattle.un_frame.specs.Lanes.{packs, tx_size, rx_size}
use Rattle.un_journal.specs.declared.lines.Line.TheVariants.{Took, Made, Posted, Flying, Landed, Failed, Retried, Cut, Dropped, TxHome, Gave, Recalled}
use Rattle.un_journal.specs.Script.{Script}
use Rattle.un_journal.specs.History.{Entry, History, past, concerns, those, taken, made, cover, took_last, posts, recalls, flights, failures, retries, flight_cuts, posted, flies, ended, landed, failed, was_cut, gave, span, span_numbers, left_of, delivered, returned, more_if, ends, count_of}
use Rattle.un_journal.specs.Lookup.{phase_after, block_claims, tx_home, rx_home, claim, rx_back}
use Rattle.un_journal.specs.Step.{all_home, away}
use Rattle.un_journal.specs.Sound.{IsSound, IsNext}
use Rattle.un_journal.specs.Fits.{Legal}
use Rattle.un_journal.proofs.Lanes.Status.{Status, Quiet, Aloft, Arrived, Faulted, Severed, status, status_of, is_aloft, is_arrived, is_faulted, is_severed}
use Rattle.un_journal.proofs.Lanes.SerialOrder.{is_up, is_over, in_order, none_up}
use Rattle.un_journal.proofs.Lanes.MayFollow.{fresh, quiet_grounded}
use Rattle.un_journal.proofs.Steps.StaySound.{legal_good}
use Rattle.un_journal.specs.Rules.{AllRuled, AllLane}
use Rattle.un_journal.proofs.Steps.LineRules.{legal_ruled}

-- THE RULES OF ONE LANE

pub lane_ruled : (script : Script) (older : History) → AllRuled script older → (l : Lane) → AllLane script l (filter (concerns l) older)
lane_ruled script [] all l = tt
lane_ruled script (e ∷ older) all l = go (concerns l e) refl (lane_ruled script older all.1 l)
  where
    go : (b : Bool) → concerns l e ≡ b → AllLane script l (filter (concerns l) older) → AllLane script l (if b then (e ∷ filter (concerns l) older) else filter (concerns l) older)
    go true c rec = (record { phase = phase_after script.controls older; rule = all.0.of_lane l c }, rec)
    go false c rec = rec

-- COUNTS

-- how many landed
abbrev pub landed_lines : History → ℕ
landed_lines g = count_of (elim [ Landed l k ↦ true | _ ↦ false ]) g

pub up_of : (g : History) → IsSound g → (k : ℕ) → flies g k ≡ true → is_up g ≡ true
up_of g sound k f = ((in_order g sound k).aloft (sym (status_of g sound k).flies_is ∙ f)).1

-- each flight landed, failed, was cut or is up
pub flight_sum : (g : History) → IsSound g → flights g ≡ landed_lines g + failures g + retries g + flight_cuts g + one_if (is_up g)
flight_sum [] sound = refl
flight_sum ((Flying l k, bytes) ∷ g) sound =
    let e : flights g ≡ landed_lines g + failures g + retries g + flight_cuts g + one_if (is_up g) = flight_sum g sound.1 in
    let none : one_if (is_up g) ≡ 0 = ap one_if (none_up g sound.1 (in_order g sound.1) k sound.0) in omega arith
flight_sum ((Landed l k, bytes) ∷ g) sound =
    let e : flights g ≡ landed_lines g + failures g + retries g + flight_cuts g + one_if (is_up g) = flight_sum g sound.1 in
    let up : one_if (is_up g) ≡ 1 = ap one_if (up_of g sound.1 k sound.0) in omega arith
flight_sum ((Failed l k kind, bytes) ∷ g) sound =
    let e : flights g ≡ landed_lines g + failures g + retries g + flight_cuts g + one_if (is_up g) = flight_sum g sound.1 in
    let up : one_if (is_up g) ≡ 1 = ap one_if (up_of g sound.1 k sound.0) in omega arith
flight_sum ((Retried l k n, bytes) ∷ g) sound =
    let e : flights g ≡ landed_lines g + failures g + retries g + flight_cuts g + one_if (is_up g) = flight_sum g sound.1 in
    let up : one_if (is_up g) ≡ 1 = ap one_if (up_of g sound.1 k sound.0) in omega arith
flight_sum ((Cut l k c, bytes) ∷ g) sound = go sound.0 (flight_sum g sound.1)
  where
    go : (flies g k ≡ true) ⊎ IsNext g k → flights g ≡ landed_lines g + failures g + retries g + flight_cuts g + one_if (is_up g)
        → flights g ≡ landed_lines g + failures g + retries g + more_if (flies g k) (flight_cuts g) + 0
    go (inl f) e = let up : one_if (is_up g) ≡ 1 = ap one_if (up_of g sound.1 k f) in rw f (omega arith)
    go (inr n) e = let none : one_if (is_up g) ≡ 0 = ap one_if (none_up g sound.1 (in_order g sound.1) k n) in rw (n.is_alone k) (omega arith)
flight_sum (e ∷ g) sound = flight_sum g sound.1

-- what flies hasn't landed
pub flying_not_landed : (g : History) → IsSound g → (k : ℕ) → flies g k ≡ true → landed g k ≡ false
flying_not_landed g sound k f = go (status g k) (sym (status_of g sound k).flies_is ∙ f) (status_of g sound k).landed_is
  where
    go : (s : Status) → is_aloft s ≡ true → landed g k ≡ is_arrived s → landed g k ≡ false
    go Aloft a e = e
    go Quiet a e = e
    go Arrived a e = absurd (false≢true a)
    go Faulted a e = e
    go Severed a e = e

pub flying_made : (g : History) → IsSound g → (k : ℕ) → flies g k ≡ true → k < made g
flying_made g sound k f =
    elim (cases_lt k (made g)) [ inl h ↦ h | inr h ↦ absurd (false≢true (sym (quiet_grounded g sound k (fresh g sound k h)) ∙ f)) ]

pub landed_all : (g : History) → IsSound g → (n : ℕ) → made g ≤ n → length (those (landed g) n) ≡ landed_lines g
landed_all [] sound n h = rw (those_empty (λ k. false) n (λ j i. refl)) refl
landed_all ((Made l j a b, bytes) ∷ g) sound n h = landed_all g sound.1 n (omega arith)
landed_all ((Landed l j, bytes) ∷ g) sound n h =
    those_count (landed g) (λ k. j == k || landed g k) j (flying_not_landed g sound.1 j sound.0)
    (λ k apart. rw (ne_eqb j k (λ e. apart (sym e))) refl) n (let low : j < made g = flying_made g sound.1 j sound.0 in omega arith)
    ∙ rw (eq-eqb j j refl) (ap (λ i. i + 1) (landed_all g sound.1 n h))
landed_all (e ∷ g) sound n h = landed_all g sound.1 n h

pub landed_count : (g : History) → IsSound g → length (those (landed g) (made g)) ≡ landed_lines g
landed_count g sound = landed_all g sound (made g) (omega arith)

pub delivered_landed : (g : History) → IsSound g → length (delivered g) ≤ landed_lines g
delivered_landed g sound =
    let e : length (those (landed g) (made g)) ≡ landed_lines g = landed_count g sound in
    let less : length (delivered g) ≤ length (those (landed g) (made g)) = those_less _ (landed g) (made g) (λ k i t. (and_parts (landed g k) _ t).0) in omega arith

-- TRANSMIT REQUESTS

over_of : (l x c : Bool) (s : Status) → l ≡ is_arrived s → x ≡ is_faulted s → c ≡ is_severed s → (l || x || c) ≡ is_over s
over_of l x c Quiet p q r = rw (r, q, p) refl
over_of l x c Aloft p q r = rw (r, q, p) refl
over_of l x c Arrived p q r = rw (r, q, p) refl
over_of l x c Faulted p q r = rw (r, q, p) refl
over_of l x c Severed p q r = rw (r, q, p) refl

pub ended_is : (g : History) → IsSound g → (k : ℕ) → ended g k ≡ is_over (status g k)
ended_is g sound k = let r = status_of g sound k in over_of (landed g k) (failed g k) (was_cut g k) (status g k) r.landed_is r.failed_is r.cut_is

pub ended_below : (g : History) → IsSound g → (k : ℕ) → ended g k ≡ true → k < ends g
ended_below g sound k e =
    elim (cases_lt k (ends g)) [ inl h ↦ h | inr h ↦ absurd (false≢true (sym ((in_order g sound k).above h) ∙ (sym (ended_is g sound k) ∙ e))) ]

pub below_ended : (g : History) → IsSound g → (k : ℕ) → k < ends g → ended g k ≡ true
below_ended g sound k h = ended_is g sound k ∙ (in_order g sound k).below h

pub ends_made : (g : History) → IsSound g → ends g + one_if (is_up g) ≤ made g
ends_made g sound = go (is_up g) refl
  where
    low : ends g ≤ made g
    low = elim (cases_lt (made g) (ends g)) [
      | inl h ↦ absurd (false≢true (sym (ap is_over (fresh g sound (made g) (omega arith))) ∙ (in_order g sound (made g)).below h))
      | inr h ↦ h
    ]

    go : (b : Bool) → is_up g ≡ b → ends g + one_if b ≤ made g
    go false e = let h = low in omega arith
    go true e = elim (cases_lt (ends g) (made g)) [
      | inl h ↦ omega arith
      | inr h ↦ absurd (false≢true (sym (ap is_aloft (fresh g sound (ends g) h)) ∙ (in_order g sound (ends g)).aloft_at e refl))
    ]

pub returned_ends : (g : History) → IsSound g → returned g ≤ ends g
returned_ends [] sound = omega arith
returned_ends ((TxHome l k, bytes) ∷ g) sound = let low : k < ends g = ended_below g sound.1 k sound.0.1 in let same : k ≡ returned g = sound.0.0 in omega arith
returned_ends ((Landed l k, bytes) ∷ g) sound = let low : returned g ≤ ends g = returned_ends g sound.1 in omega arith
returned_ends ((Failed l k kind, bytes) ∷ g) sound = let low : returned g ≤ ends g = returned_ends g sound.1 in omega arith
returned_ends ((Cut l k c, bytes) ∷ g) sound = let low : returned g ≤ ends g = returned_ends g sound.1 in omega arith
returned_ends (e ∷ g) sound = returned_ends g sound.1

claim_pays : (after before : Bool) (m s r : ℕ) → (after ≡ true → before ≡ false → 0 < s + r - (m + (if before then 1 else 0))) → m + (if before then 1 else 0) ≤ s + r → m + (if after then 1 else 0) ≤ s + r
claim_pays false true m s r pays e = omega arith
claim_pays false false m s r pays e = e
claim_pays true true m s r pays e = e
claim_pays true false m s r pays e = let some : 0 < s + r - (m + 0) = pays refl refl in omega arith

made_pays : (after before : Bool) (m s r : ℕ) → after ≡ false → (before ≡ true) ⊎ (0 < s + r - (m + (if before then 1 else 0))) → m + (if before then 1 else 0) ≤ s + r → m + 1 + (if after then 1 else 0) ≤ s + r
made_pays after before m s r free (inl e) h = rw free (let w : m + (if true then 1 else 0) ≤ s + r = subst (λ i. m + (if i then 1 else 0) ≤ s + r) e h in omega arith)
made_pays after true m s r free (inr e) h = rw free (omega arith)
made_pays after false m s r free (inr e) h = rw free (let some : 0 < s + r - (m + 0) = e in omega arith)

drop_claims : (blocks last : Bool) (t a b c : ℕ) → a ≡ c → a < b → (blocks && nat_lt 0 (t - b) && last) ≡ true → (blocks && nat_lt 0 (t - c) && last) ≡ false → ⊥
drop_claims blocks last t a b c same some after before = grind (arith, nat_tests)

pub out_sum : (script : Script) (g : History) → IsSound g → AllLane script Outward g → made g + claim script.params Outward g ≤ tx_size script.params Outward + returned g
out_sum script [] sound all = rw (and_false (packs script.params.class Outward && nat_lt 0 0)) (omega arith)
out_sum script ((Took l s, bytes) ∷ g) sound all =
    claim_pays (block_claims script.params Outward ((Took l s, bytes) ∷ g)) (block_claims script.params Outward g) (made g) (tx_size script.params Outward) (returned g) all.0.rule.pays (out_sum script g sound.1 all.1)
out_sum script ((Made l k a b, bytes) ∷ g) sound all =
    made_pays (block_claims script.params Outward ((Made l k a b, bytes) ∷ g)) (block_claims script.params Outward g) (made g) (tx_size script.params Outward) (returned g)
    (and_false (packs script.params.class Outward && nat_lt 0 (taken g - b))) all.0.rule.pays (out_sum script g sound.1 all.1)
out_sum script ((Dropped l a b c, bytes) ∷ g) sound all =
    claim_pays (block_claims script.params Outward ((Dropped l a b c, bytes) ∷ g)) (block_claims script.params Outward g) (made g) (tx_size script.params Outward) (returned g)
    (λ x y. absurd (drop_claims (packs script.params.class Outward) (took_last g) (taken g) a b (cover g) sound.0.begins sound.0.is_some x y)) (out_sum script g sound.1 all.1)
out_sum script ((TxHome l k, bytes) ∷ g) sound all = let e : made g + claim script.params Outward g ≤ tx_size script.params Outward + returned g = out_sum script g sound.1 all.1 in omega arith
out_sum script (e ∷ g) sound all = out_sum script g sound.1 all.1

pub in_sum : (script : Script) (g : History) → IsSound g → AllLane script Inward g → made g ≤ tx_size script.params Inward + returned g
in_sum script [] sound all = omega arith
in_sum script ((Made l k a b, bytes) ∷ g) sound all = go all.0.rule.pays (in_sum script g sound.1 all.1)
  where
    go : (false ≡ true) ⊎ (0 < tx_size script.params Inward + returned g - (made g + 0)) → made g ≤ tx_size script.params Inward + returned g → made g + 1 ≤ tx_size script.params Inward + returned g
    go (inl e) h = absurd (false≢true e)
    go (inr e) h = omega arith
in_sum script ((TxHome l k, bytes) ∷ g) sound all = let e : made g ≤ tx_size script.params Inward + returned g = in_sum script g sound.1 all.1 in omega arith
in_sum script (e ∷ g) sound all = in_sum script g sound.1 all.1

pub tx_least : (script : Script) (l : Lane) (g : History) → IsSound g → AllLane script l g → made g + claim script.params l g ≤ tx_size script.params l + returned g
tx_least script Outward g sound all = out_sum script g sound all
tx_least script Inward g sound all = let e : made g ≤ tx_size script.params Inward + returned g = in_sum script g sound all in omega arith

-- RECEIVE REQUESTS

pub posted_least : (script : Script) (l : Lane) (g : History) → AllLane script l g → recalls g + flights g ≤ posts g
posted_least script l [] all = omega arith
posted_least script l ((Posted l', bytes) ∷ g) all = let e : recalls g + flights g ≤ posts g = posted_least script l g all.1 in omega arith
posted_least script l ((Flying l' k, bytes) ∷ g) all = let e : recalls g + flights g ≤ posts g = posted_least script l g all.1 in let some : 0 < posts g - (recalls g + flights g) = all.0.rule.is_posted in omega arith
posted_least script l ((Recalled l', bytes) ∷ g) all = let e : recalls g + flights g ≤ posts g = posted_least script l g all.1 in let some : 0 < posts g - (recalls g + flights g) = all.0.rule.1 in omega arith
posted_least script l (e ∷ g) all = posted_least script l g all.1

filter_less : (p q : ℕ → Bool) (xs : List ℕ) → ((n : ℕ) → q n ≡ true → p n ≡ true) → is_empty (filter p xs) ≡ true → is_empty (filter q xs) ≡ true
filter_less p q [] h e = refl
filter_less p q (x ∷ xs) h e = go (p x) (q x) (h x) e (filter_less p q xs h)
  where
    go : (a b : Bool) → (b ≡ true → a ≡ true) → is_empty (if a then (x ∷ filter p xs) else filter p xs) ≡ true → (is_empty (filter p xs) ≡ true → is_empty (filter q xs) ≡ true) → is_empty (if b then (x ∷ filter q xs) else filter q xs) ≡ true
    go true b i f rec = absurd (false≢true f)
    go false true i f rec = absurd (false≢true (i refl))
    go false false i f rec = rec f

not_gave : (m n : ℕ) (v : Bool) → not (m == n || v) ≡ true → not v ≡ true
not_gave m n v e = go (m == n) v e
  where
    go : (a v : Bool) → not (a || v) ≡ true → not v ≡ true
    go true v e = absurd (false≢true e)
    go false v e = e

pub delivered_grows : (e : Entry) (g : History) → IsSound (e ∷ g) → length (delivered g) ≤ length (delivered (e ∷ g))
delivered_grows (Made l j a b, bytes) g sound =
    let same : length (delivered g) ≤ length (those test (made g)) = those_less (λ k. landed g k && is_empty (left_of g k)) test (made g) keep in
    let longer : length (those test (made g)) ≤ length (those test (suc (made g))) = those_longer test (made g) in
    subst (λ i. length (delivered g) ≤ length (those test i)) one_more (omega arith)
  where
    test : ℕ → Bool
    test k = landed g k && is_empty (left_of ((Made l j a b, bytes) ∷ g) k)

    one_more : suc (made g) ≡ made g + 1
    one_more = omega arith

    keep : (k : ℕ) → k < made g → (landed g k && is_empty (left_of g k)) ≡ true → test k ≡ true
    keep k h t = rw (ne_eqb j k (λ e. let same : j ≡ made g = sound.0.0 in omega arith)) t
delivered_grows (Landed l j, bytes) g sound =
    those_less _ _ (made g) (λ k h t. let r = and_parts (landed g k) (is_empty (left_of g k)) t in and_from _ _ (or_right (j == k) (landed g k) r.0) r.1)
delivered_grows (Gave l m, bytes) g sound =
    those_less _ _ (made g) (λ k h t. let r = and_parts (landed g k) (is_empty (left_of g k)) t in
    and_from _ _ r.0 (filter_less (λ n. not (gave g n)) (λ n. not (m == n || gave g n)) (span_numbers (span g k)) (λ n e. not_gave m n (gave g n) e) r.1))
delivered_grows (e, bytes) g sound = omega arith

pub more_least : (b : Bool) (n : ℕ) → n ≤ more_if b n
more_least true n = omega arith
more_least false n = omega arith

pub rx_least : (script : Script) (l : Lane) (g : History) → IsSound g → AllLane script l g → posts g ≤ rx_back script.params l g
rx_least script l [] sound all = omega arith
rx_least script l ((Posted l', bytes) ∷ g) sound all =
    let e : posts g ≤ rx_back script.params l g = rx_least script l g sound.1 all.1 in let some : 0 < rx_back script.params l g - posts g = all.0.rule.1 in omega arith
rx_least script l ((Recalled l', bytes) ∷ g) sound all = let e : posts g ≤ rx_back script.params l g = rx_least script l g sound.1 all.1 in omega arith
rx_least script l ((Failed l' k kind, bytes) ∷ g) sound all = let e : posts g ≤ rx_back script.params l g = rx_least script l g sound.1 all.1 in omega arith
rx_least script l ((Retried l' k n, bytes) ∷ g) sound all = let e : posts g ≤ rx_back script.params l g = rx_least script l g sound.1 all.1 in omega arith
rx_least script l ((Cut l' k c, bytes) ∷ g) sound all =
    let e : posts g ≤ rx_back script.params l g = rx_least script l g sound.1 all.1 in
    let more : flight_cuts g ≤ more_if (flies g k) (flight_cuts g) = more_least (flies g k) (flight_cuts g) in omega arith
rx_least script l ((Made l' j a b, bytes) ∷ g) sound all =
    let e : posts g ≤ rx_back script.params l g = rx_least script l g sound.1 all.1 in
    let more : length (delivered g) ≤ length (delivered ((Made l' j a b, bytes) ∷ g)) = delivered_grows (Made l' j a b, bytes) g sound in omega arith
rx_least script l ((Landed l' j, bytes) ∷ g) sound all =
    let e : posts g ≤ rx_back script.params l g = rx_least script l g sound.1 all.1 in
    let more : length (delivered g) ≤ length (delivered ((Landed l' j, bytes) ∷ g)) = delivered_grows (Landed l' j, bytes) g sound in omega arith
rx_least script l ((Gave l' m, bytes) ∷ g) sound all =
    let e : posts g ≤ rx_back script.params l g = rx_least script l g sound.1 all.1 in
    let more : length (delivered g) ≤ length (delivered ((Gave l' m, bytes) ∷ g)) = delivered_grows (Gave l' m, bytes) g sound in omega arith
rx_least script l (e ∷ g) sound all = rx_least script l g sound.1 all.1

-- THE SUMS

pub record HomeSums (params : Params) (l : Lane) (g : History) : Type 0 where
  pub transmit : made g + tx_home params l g + claim params l g ≡ tx_size params l + returned g
  pub receive : posts g + rx_home params l g ≡ rx_back params l g
  pub transmit_in_pool : tx_home params l g ≤ tx_size params l
  pub receive_in_pool : rx_home params l g ≤ rx_size params l
  -- every posted request was recalled, flew, or is posted
  pub posted_is : recalls g + flights g + posted g ≡ posts g
  -- and every receive request is at home, posted, up, or landed and not yet given whole
  pub receive_all : rx_home params l g + posted g + one_if (is_up g) + landed_lines g ≡ rx_size params l + length (delivered g)

pub home_sums : (script : Script) (l : Lane) (g : History) → IsSound g → AllLane script l g → HomeSums script.params l g
home_sums script l g sound all =
    let tx : made g + claim script.params l g ≤ tx_size script.params l + returned g = tx_least script l g sound all in
    let rx : posts g ≤ rx_back script.params l g = rx_least script l g sound all in
    let po : recalls g + flights g ≤ posts g = posted_least script l g all in
    let fl : flights g ≡ landed_lines g + failures g + retries g + flight_cuts g + one_if (is_up g) = flight_sum g sound in
    let de : length (delivered g) ≤ landed_lines g = delivered_landed g sound in
    let re : returned g ≤ ends g = returned_ends g sound in
    let en : ends g + one_if (is_up g) ≤ made g = ends_made g sound in
    record { transmit = omega arith; receive = omega arith; transmit_in_pool = omega arith; receive_in_pool = omega arith; posted_is = omega arith; receive_all = omega arith }

pub legal_sums : (script : Script) (h : History) → Legal script h → (l : Lane) → HomeSums script.params l (past l h)
legal_sums script h legal l = home_sums script l (past l h) ((legal_good script h legal).sound l) (lane_ruled script (reverse h) (legal_ruled script h legal) l)

four_equal : (a b c d e f g h : ℕ) → ((a == e) && (b == f) && (c == g) && (d == h)) ≡ true → (e + f + g + h) - (a + b + c + d) ≡ 0
four_equal a b c d e f g h t = grind (arith, nat_tests)

four_apart : (a b c d e f g h : ℕ) → a ≤ e → b ≤ f → c ≤ g → d ≤ h → ((a == e) && (b == f) && (c == g) && (d == h)) ≡ false → 0 < (e + f + g + h) - (a + b + c + d)
four_apart a b c d e f g h p q r s t = grind (arith, nat_tests)

pub away_none : (script : Script) (h : History) → all_home script h ≡ true → away script h ≡ 0
away_none script h e = four_equal (tx_home script.params Outward (past Outward h)) (rx_home script.params Outward (past Outward h)) (tx_home script.params Inward (past Inward h)) (rx_home script.params Inward (past Inward h)) _ _ _ _ e

pub away_some : (script : Script) (h : History) → Legal script h → all_home script h ≡ false → 0 < away script h
away_some script h legal e =
    let o = legal_sums script h legal Outward in
    let i = legal_sums script h legal Inward in
    four_apart (tx_home script.params Outward (past Outward h)) (rx_home script.params Outward (past Outward h)) (tx_home script.params Inward (past Inward h)) (rx_home script.params Inward (past Inward h)) _ _ _ _
    o.transmit_in_pool o.receive_in_pool i.transmit_in_pool i.receive_in_pool e
