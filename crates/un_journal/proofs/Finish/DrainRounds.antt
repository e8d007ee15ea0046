-- The drain round by round, a quiet link lane by lane, and two beginnings of one history.
use Rattle.std.proofs.Common.{◌&&◌, List, ◌≡◌, suc, ◌+◌, ◌≤◌, Bool, true, false, [], ◌∷◌, ◌++◌, length, refl, sym, ap, ◌∙◌, subst, arith, append-nil}
use Rattle.std.proofs.lemmas.Bool.{false≢true}
use Rattle.un_frame.specs.declared.params.Lane.{Lane}
use Rattle.un_journal.specs.declared.actions.Action.{Action}
use Rattle.un_journal.specs.Script.{Script}
use Rattle.un_journal.specs.History.{History, past, flying}
use Rattle.un_journal.specs.Step.{Work, work, step_of, is_still, offers, other_works, lane_works, quiet, offers_still}
use Rattle.std.specs.List.{list_all}
use Rattle.std.proofs.lemmas.List.Folds.{list_all-append}
use Rattle.un_facts.specs.Lists.{is_empty}
use Rattle.un_frame.specs.declared.params.Lane.TheVariants.{Outward, Inward}
use Rattle.un_journal.specs.Fits.{Legal, IsDone}
use Rattle.un_journal.specs.Drain.{run, round, drain, drain_in, same_length, line_bound}
use Rattle.un_journal.proofs.Steps.StayLegal.{legal_step, legal_run}
use Rattle.un_journal.proofs.Steps.OneWay.{goes_no_further}
use Rattle.un_journal.proofs.Finish.Drain.{Extends, fuel_same}

-- QUIET

-- whether nothing flies in the lane and none of its work but an offer would write lines, and whether no offer would
abbrev pub lane_still : Script → History → Lane → Bool
lane_still script h lane = is_empty (flying (past lane h)) && list_all (λ w. is_still (work script h w)) (other_works lane)

same_parts : (fo fi oo so oi si st : Bool) → ((fo && fi) && ((oo && so) && ((oi && si) && st))) ≡ (((fo && so) && (fi && si)) && ((oo && oi) && st))
same_parts false fi oo so oi si st = refl
same_parts true fi oo false oi si st = left fi oo
  where
    left : (a b : Bool) → (a && ((b && false) && ((oi && si) && st))) ≡ false
    left false b = refl
    left true false = refl
    left true true = refl
same_parts true false oo true oi si st = refl
same_parts true true false true oi si st = right si
  where
    right : (a : Bool) → false ≡ (a && false)
    right false = refl
    right true = refl
same_parts true true true true oi false st = none oi
  where
    none : (a : Bool) → ((a && false) && st) ≡ false
    none false = refl
    none true = refl
same_parts true true true true false true st = refl
same_parts true true true true true true st = refl

and_assoc : (x y z : Bool) → ((x && y) && z) ≡ (x && (y && z))
and_assoc true y z = refl
and_assoc false y z = refl

split_lists : (p : Work → Bool) (a b c d e : List Work) → list_all p (((a ++ b) ++ (c ++ d)) ++ e) ≡ ((list_all p a && list_all p b) && ((list_all p c && list_all p d) && list_all p e))
split_lists p a b c d e =
    list_all-append p ((a ++ b) ++ (c ++ d)) e
    ∙ (ap (λ i. i && list_all p e) (list_all-append p (a ++ b) (c ++ d) ∙ (ap (λ i. i && list_all p (c ++ d)) (list_all-append p a b) ∙ ap (λ i. (list_all p a && list_all p b) && i) (list_all-append p c d)))
    ∙ and_assoc (list_all p a && list_all p b) (list_all p c && list_all p d) (list_all p e))

one_all : (p : Work → Bool) (w : Work) → list_all p (w ∷ []) ≡ p w
one_all p w = go (p w)
  where
    go : (b : Bool) → (b && true) ≡ b
    go true = refl
    go false = refl

-- a link is quiet where both lanes are still, no offer would write lines, and no stop would settle
pub quiet_parts : (script : Script) (h : History)
    → quiet script h ≡ ((lane_still script h Outward && lane_still script h Inward) && ((offers_still script h Outward && offers_still script h Inward) && is_still (work script h Work.Settle)))
quiet_parts script h = ap (λ b. (is_empty (flying (past Outward h)) && is_empty (flying (past Inward h))) && b) split
    ∙ same_parts (is_empty (flying (past Outward h))) (is_empty (flying (past Inward h))) (offers_still script h Outward) (list_all test (other_works Outward)) (offers_still script h Inward) (list_all test (other_works Inward)) (test Work.Settle)
  where
    test : Work → Bool
    test w = is_still (work script h w)

    split : list_all test (lane_works Outward ++ lane_works Inward ++ Work.Settle ∷ []) ≡ ((list_all test (offers Outward) && list_all test (other_works Outward)) && ((list_all test (offers Inward) && list_all test (other_works Inward)) && test Work.Settle))
    split = split_lists test (offers Outward) (other_works Outward) (offers Inward) (other_works Inward) (Work.Settle ∷ [])
        ∙ ap (λ b. (list_all test (offers Outward) && list_all test (other_works Outward)) && ((list_all test (offers Inward) && list_all test (other_works Inward)) && b)) (one_all test Work.Settle)

-- THE LOOP OF THE DRAIN

drain_once : (script : Script) (h : History) → drain script h ≡ drain_in (suc (line_bound script)) script h
drain_once script h = ap (λ n. drain_in n script h) more
  where
    more : line_bound script + 1 ≡ suc (line_bound script)
    more = omega arith

drain_on : (script : Script) (h : History) → Legal script h → drain_in (line_bound script) script h ≡ drain script h
drain_on script h legal = fuel_same (line_bound script) (line_bound script + 1) script h legal (omega arith) (omega arith)

-- a round that wrote lines is one of the drain's
pub drain_after_round : (script : Script) (h : History) → Legal script h → same_length h (run script h round) ≡ false → drain script (run script h round) ≡ drain script h
drain_after_round script h legal more =
    sym (drain_once script h ∙ (go (same_length h (run script h round)) more (drain_in (line_bound script) script (run script h round)) _ ∙ drain_on script (run script h round) (legal_run script h round legal)))
  where
    go : (b : Bool) → b ≡ false → (x y : History) → (elim b as (λ i. History) [ false ↦ x | true ↦ y ]) ≡ x
    go true e x y = absurd (false≢true (sym e))
    go false e x y = refl

-- after one that wrote none, a forced control that wrote lines is the drain's
pub drain_after_control : (script : Script) (h : History) → Legal script h → same_length h (run script h round) ≡ true → same_length h (h ++ step_of script h (Action.Control true)) ≡ false
    → drain script (h ++ step_of script h (Action.Control true)) ≡ drain script h
drain_after_control script h legal none more =
    sym (drain_once script h ∙ (go (same_length h (run script h round)) (same_length h (h ++ step_of script h (Action.Control true))) none more _ (drain_in (line_bound script) script (h ++ step_of script h (Action.Control true))) h
    ∙ drain_on script (h ++ step_of script h (Action.Control true)) (legal_step script h (Action.Control true) legal)))
  where
    go : (a b : Bool) → a ≡ true → b ≡ false → (x y z : History) → (elim a as (λ i. History) [ false ↦ x | true ↦ elim b as (λ i. History) [ false ↦ y | true ↦ z ] ]) ≡ y
    go false b n m x y z = absurd (false≢true n)
    go true true n m x y z = absurd (false≢true (sym m))
    go true false n m x y z = refl

-- where neither wrote any, the drain is at its end
pub drain_at_end : (script : Script) (h : History) → same_length h (run script h round) ≡ true → same_length h (h ++ step_of script h (Action.Control true)) ≡ true → drain script h ≡ h
drain_at_end script h none still = drain_once script h ∙ go (same_length h (run script h round)) (same_length h (h ++ step_of script h (Action.Control true))) none still _ _ h
  where
    go : (a b : Bool) → a ≡ true → b ≡ true → (x y z : History) → (elim a as (λ i. History) [ false ↦ x | true ↦ elim b as (λ i. History) [ false ↦ y | true ↦ z ] ]) ≡ z
    go false b n m x y z = absurd (false≢true n)
    go true true n m x y z = refl
    go true false n m x y z = absurd (false≢true m)

-- PREFIXES

-- of two beginnings of one history the longer begins with the other
pub begins_longer : (xs ys more more' : History) → xs ++ more ≡ ys ++ more' → length xs ≤ length ys → Extends xs ys
begins_longer [] ys more more' e low = record { more = ys; is_more = refl }
begins_longer (x ∷ xs) [] more more' e low = absurd (omega arith)
begins_longer (x ∷ xs) (y ∷ ys) more more' e low =
    let same : x ≡ y = cc in
    let rest : xs ++ more ≡ ys ++ more' = cc in
    let w = begins_longer xs ys more more' rest (omega arith) in
    record { more = w.more; is_more = ap (λ i. y ∷ i) w.is_more ∙ ap (λ i. i ∷ (xs ++ w.more)) (sym same) }

-- a done beginning of a legal history is all of it
pub done_is_all : (script : Script) (g h : History) → IsDone script g → Legal script h → Extends g h → h ≡ g
done_is_all script g h d legal w =
    w.is_more ∙ (ap (λ i. g ++ i) (goes_no_further script g w.more d (subst (Legal script) w.is_more legal)) ∙ append-nil g)
