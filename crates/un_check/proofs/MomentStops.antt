-- Where a reading of a history stops, and that it stops at one index.
use Rattle.std.proofs.Common.{◌≡◌, ℕ, suc, ◌+◌, ◌-◌, ◌<◌, ◌≤◌, [], ◌∷◌, ◌++◌, length, take, drop, reverse, get_or, Some, slice_get, sym, ap, ◌∙◌, subst, arith, append-nil, append_assoc}
use Rattle.std.proofs.Math.Seq.{take-add, take-length}
use Rattle.std.proofs.lemmas.Bool.{false≢true}
use Rattle.std.proofs.lemmas.List.{take-append-drop, length-drop}
use Rattle.std.proofs.lemmas.Option.{slice_get_within, slice_get-get_or}
use Rattle.un_journal.specs.Script.{Script}
use Rattle.un_journal.specs.History.{Entry, History}
use Rattle.un_journal.specs.Lookup.{controls_done}
use Rattle.un_journal.specs.LaneSteps.{Writes}
use Rattle.un_journal.specs.Fits.{Act, Legal, IsDone, act_outcome}
use Rattle.un_journal.proofs.ForReader.{NextStep, next_step, line_fixes, goes_no_further, outcome_fits, have_pools, done_quiet}
use Rattle.un_check.specs.Moments.{IsMoment, StopsAt, Differs, BeginsStep}
use Rattle.un_check.specs.MomentLaws.{StepStops, NoneBegins, RestlessStops, OrdersLeftStop, StopIsOne, DoneStopsNowhere}
use Rattle.un_check.proofs.MomentReads.{line_reads, differs_after, read_front, differs_front, next_of}
use Rattle.un_check.proofs.MomentSteps.{line_begins_step, step_is_legal}

-- MOMENTS

-- a legal history is a moment of itself
legal_moment : (script : Script) (h : History) → Legal script h → IsMoment script h
legal_moment script h legal = record { rest = []; is_legal = subst (Legal script) (sym (append-nil h)) legal }

-- what begins a moment is one
moment_front : (script : Script) (p rest h : History) → h ≡ p ++ rest → IsMoment script h → IsMoment script p
moment_front script p rest h q m = record { rest = rest ++ m.rest; is_legal = subst (Legal script) (ap (λ i. i ++ m.rest) q ∙ append_assoc p rest m.rest) m.is_legal }

moment_before : (script : Script) (h : History) (k j : ℕ) → k ≤ j → IsMoment script (take j h) → IsMoment script (take k h)
moment_before script h k j low m = moment_front script (take k h) (take (j - k) (drop k h)) (take j h) split m
  where
    place : j ≡ k + (j - k)
    place = omega arith

    split : take j h ≡ take k h ++ take (j - k) (drop k h)
    split = ap (λ i. take i h) place ∙ take-add k (j - k) h

-- INSIDE A STEP

-- a history with a part of a step, which isn't the whole step, at its end begins a legal one, and isn't done
module _ (script : Script) (g lines : History) (act : Act) (legal : Legal script g) (writes : act_outcome script g act ≡ Writes lines) (i : ℕ) where
  split : g ++ lines ≡ (g ++ take i lines) ++ drop i lines
  split = ap (λ x. g ++ x) (sym (take-append-drop i lines)) ∙ sym (append_assoc g (take i lines) (drop i lines))

  part_legal : Legal script ((g ++ take i lines) ++ drop i lines)
  part_legal = subst (Legal script) split (step_is_legal script g act lines legal writes)

  part_begins : IsMoment script (g ++ take i lines)
  part_begins = record { rest = drop i lines; is_legal = part_legal }

  part_isnt_done : i < length lines → IsDone script (g ++ take i lines) → ⊥
  part_isnt_done low done =
      let none : length (drop i lines) ≡ 0 = ap length (goes_no_further script (g ++ take i lines) (drop i lines) done part_legal) in
      let left : length (drop i lines) ≡ length lines - i = length-drop i lines in
      omega arith

-- where it goes on with one more line, that line is the step's
part_goes_on : (script : Script) (g : History) (act : Act) (e f : Entry) (more : History) (i : ℕ)
    → Legal script g → act_outcome script g act ≡ Writes (e ∷ more) → i < length more
    → IsMoment script ((g ++ e ∷ take i more) ++ f ∷ []) → slice_get more i ≡ Some f
part_goes_on script g act e f more i legal writes low m = next_of more next.more m.rest f i low (next.goes ∙ ap (λ x. x ++ next.more) (sym same))
  where
    whole : ((g ++ e ∷ take i more) ++ f ∷ []) ++ m.rest ≡ g ++ e ∷ (take i more ++ f ∷ m.rest)
    whole = append_assoc (g ++ e ∷ take i more) (f ∷ []) m.rest ∙ append_assoc g (e ∷ take i more) (f ∷ m.rest)

    next : NextStep script g e (take i more ++ f ∷ m.rest)
    next = next_step script g (take i more ++ f ∷ m.rest) e legal (subst (Legal script) whole m.is_legal)

    same : more ≡ next.lines
    same = (line_fixes script g more next.lines act next.act e.0 e.1 e.1 (outcome_fits script g (e ∷ more) act writes) next.fits).1

pub step_stops : StepStops
step_stops script h at act e more k legal writes q d = record {
  within = d.within;
  begins = subst (IsMoment script) (sym front) (part_begins script (take at h) (e ∷ more) act legal writes (k - at));
  no_further = λ low m. d.is_other (f low) (f_at low) (part_goes_on script (take at h) act e (f low) more (k - (at + 1)) legal writes inside (subst (IsMoment script) (one_more low) m));
  not_done = λ end done. part_isnt_done script (take at h) (e ∷ more) act legal writes (k - at) (omega arith) (subst (IsDone script) (whole end ∙ front) done);
}
  where
    inside : k - (at + 1) < length more
    inside = omega arith

    step : Differs h at (e ∷ more) k
    step = differs_after h at (e ∷ []) (at + 1) more k (line_reads h at e q) d

    front : take k h ≡ take at h ++ take (k - at) (e ∷ more)
    front = differs_front h at (e ∷ more) k step

    place : k - at ≡ suc (k - (at + 1))
    place = omega arith

    whole : k ≡ length h → h ≡ take k h
    whole end = sym (take-length h) ∙ ap (λ i. take i h) (sym end)

    f : k < length h → Entry
    f low = get_or h k e

    f_at : (low : k < length h) → slice_get h k ≡ Some (f low)
    f_at low = slice_get-get_or h k e low

    one_more : (low : k < length h) → take (k + 1) h ≡ (take at h ++ e ∷ take (k - (at + 1)) more) ++ f low ∷ []
    one_more low =
        read_front h k (f low ∷ []) (k + 1) (line_reads h k (f low) (f_at low))
        ∙ ap (λ i. i ++ f low ∷ []) (front ∙ ap (λ i. take at h ++ take i (e ∷ more)) place)

-- BEFORE A LINE, AND AT THE END

pub none_begins : NoneBegins
none_begins script h at e legal q none = record {
  within = omega (arith, inside);
  begins = legal_moment script (take at h) legal;
  no_further = λ low m. go (line_begins_step script (take at h) e legal (subst (IsMoment script) (read_front h at (e ∷ []) (at + 1) (line_reads h at e q)) m));
  not_done = λ end done. omega (arith, inside);
}
  where
    inside : at < length h
    inside = slice_get_within h at e q

    go : BeginsStep script (take at h) e → ⊥
    go b = none b.act b.is_of b.more b.writes

end_stops : (script : Script) (h : History) → Legal script h → (IsDone script h → ⊥) → StopsAt script h (length h)
end_stops script h legal undone = record {
  within = omega arith;
  begins = subst (IsMoment script) (sym (take-length h)) (legal_moment script h legal);
  no_further = λ low m. omega arith;
  not_done = λ end done. undone done;
}

pub restless_stops : RestlessStops
restless_stops script h ranges legal restless =
    end_stops script h legal (λ done. false≢true (sym restless ∙ (done_quiet script h (have_pools script.params ranges) done).0))

pub orders_left_stop : OrdersLeftStop
orders_left_stop script h ranges legal left = end_stops script h legal still
  where
    still : IsDone script h → ⊥
    still done = let all : controls_done (reverse h) ≡ length script.controls = (done_quiet script h (have_pools script.params ranges) done).1 in omega arith

-- ONE INDEX

none_before : (script : Script) (h : History) (k j : ℕ) → StopsAt script h k → StopsAt script h j → k < j → ⊥
none_before script h k j s t low = s.no_further (omega arith) (moment_before script h (k + 1) j (omega arith) t.begins)

pub stop_is_one : StopIsOne
stop_is_one script h k j s t =
    let a : k < j → ⊥ = none_before script h k j s t in
    let b : j < k → ⊥ = none_before script h j k t s in
    omega arith

pub done_stops_nowhere : DoneStopsNowhere
done_stops_nowhere script h k done s = s.not_done (omega (arith, s.within, not_inside)) done
  where
    whole : IsMoment script (take (length h) h)
    whole = subst (IsMoment script) (sym (take-length h)) (legal_moment script h done.is_legal)

    not_inside : k < length h → ⊥
    not_inside low = s.no_further low (moment_before script h (k + 1) (length h) (omega arith) whole)
