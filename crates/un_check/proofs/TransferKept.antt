-- What is kept of a lane's transfers is still theirs after one more line.
use Rattle.std.proofs.Common.{◌≡◌, ℕ, ◌+◌, ◌<◌, ◌≤◌, Bool, false, not, ◌&&◌, ◌||◌, ◌==◌, nat_lt, max, length, List, [], ◌∷◌, ◌++◌, Option, Some, None, is_some, slice_get, refl, sym, ap, ◌∙◌, subst, arith, inl, inr, length-append}
use Rattle.std.proofs.lemmas.Bool.{lt-ltb, le-ltb, eq-eqb, ne_eqb, cases_eq, cases_lt}
use Rattle.std.proofs.lemmas.Option.{slice_get_past}
use Rattle.un_frame.specs.declared.kinds.FaultKind.{FaultKind}
use Rattle.un_frame.specs.declared.kinds.FaultKind.TheVariants.{Proto, Halt}
use Rattle.un_frame.specs.declared.params.Lane.{Lane}
use Rattle.un_journal.specs.declared.lines.Line.TheVariants.{Made, Flying, Landed, Failed, Retried, Marked, Cut, TxHome, Cleared, Settled}
use Rattle.un_journal.specs.History.{History, made, span, flies, landed, failed, was_cut, ended, mark, attempts, returned, halted, told_if, more_if}
use Rattle.un_check.specs.declared.transfers.Transfer.{Transfer}
use Rattle.un_check.specs.Transfers.{Transfers, AreOf, no_transfers, span_in, mark_in}
use Rattle.un_check.specs.TransferLines.{GoesOn, after, halts, marked_at}
use Rattle.un_check.specs.TransferLaws.{LinesKeepTransfers}
use Rattle.un_check.proofs.TransferTests.{over_more, before_first, before_second, before_third, grounded, aloft}
use Rattle.un_check.proofs.TransferLists.{get_last, get_other, marked_length, marked_spans, marked_here, marked_other}
use Rattle.un_check.proofs.TransferCounts.{out_made, made_counts, flying_counts, over_counts, retried_counts, marked_counts, home_counts, halt_counts}

pub none_kept : AreOf [] no_transfers
none_kept = record {
  counts = record { within = omega arith; home_over = omega arith; tries_most = omega arith; marked_made = omega arith };
  made_is = refl;
  span_is = λ k. refl;
  mark_is = λ k. refl;
  ended_is = λ k. sym (le-ltb k 0 (omega arith));
  flies_is = λ k. refl;
  tries_are = refl;
  untried = λ k h. refl;
  home_is = refl;
  marked_below = λ k h low. absurd (omega arith);
  halted_is = refl;
}

-- MADE

made_kept : (g : History) (t : Transfers) (l : Lane) (j a b : ℕ) (bytes : List ℕ) → AreOf g t → j ≡ length t.all → AreOf ((Made l j a b, bytes) ∷ g) (after (Made l j a b) t)
made_kept g t l j a b bytes w e = record {
  counts = made_counts t new w.counts;
  made_is = rw length-append (let m : made g ≡ length t.all = w.made_is in omega arith);
  span_is = λ k. elim (cases_eq (length t.all) k) [
    | inl same ↦ spans_here k same
    | inr apart ↦ rw (ne_eqb j k (λ i. apart (sym e ∙ i)), get_other t.all new k apart) (w.span_is k)
  ];
  mark_is = λ k. elim (cases_eq (length t.all) k) [
    | inl same ↦ marks_here k same
    | inr apart ↦ rw (get_other t.all new k apart) (w.mark_is k)
  ];
  ended_is = w.ended_is;
  flies_is = w.flies_is;
  tries_are = w.tries_are;
  untried = w.untried;
  home_is = w.home_is;
  marked_below = λ k h low. elim (cases_eq (length t.all) k) [
    | inl same ↦ unmarked_here k same
    | inr apart ↦ w.marked_below k h (let m : length (t.all ++ new ∷ []) ≡ length t.all + 1 = length-append t.all (new ∷ []) in omega arith)
  ];
  halted_is = w.halted_is;
}
  where
    new : Transfer
    new = record { from = a; to = b; mark = None }

    spans_here : (k : ℕ) → length t.all ≡ k → told_if (j == k) (a, b) (span g k) ≡ span_in (slice_get (t.all ++ new ∷ []) k)
    spans_here k same = rw (eq-eqb j k (e ∙ same), ← same, get_last t.all new) refl

    none_here : (k : ℕ) → length t.all ≡ k → mark g k ≡ None
    none_here k same = w.mark_is k ∙ ap mark_in (slice_get_past t.all k (omega arith))

    marks_here : (k : ℕ) → length t.all ≡ k → mark g k ≡ mark_in (slice_get (t.all ++ new ∷ []) k)
    marks_here k same = none_here k same ∙ subst (λ i. None ≡ mark_in (slice_get (t.all ++ new ∷ []) i)) same (ap mark_in (sym (get_last t.all new)))

    unmarked_here : (k : ℕ) → length t.all ≡ k → is_some (mark g k) ≡ nat_lt k t.marked
    unmarked_here k same = ap is_some (none_here k same) ∙ sym (le-ltb k t.marked (let m : t.marked ≤ length t.all = w.counts.marked_made in omega arith))

-- FLIGHTS

flying_kept : (g : History) (t : Transfers) (l : Lane) (j : ℕ) (bytes : List ℕ) → AreOf g t → GoesOn (Flying l j) t → AreOf ((Flying l j, bytes) ∷ g) (after (Flying l j) t)
flying_kept g t l j bytes w e =
    let aloft_one : (k : ℕ) → (j == k || flies g k) ≡ (k == t.over) = λ k. aloft j t.over k (flies g k) e.0 (w.flies_is k ∙ ap (λ b. b && k == t.over) e.1) in
    assumption (w, flying_counts t w.counts e.2, aloft_one)

none_flies : (g : History) (t : Transfers) (j : ℕ) → AreOf g t → j ≡ t.over → (k : ℕ) → (not (j == k) && flies g k) ≡ false
none_flies g t j w e k = ap (λ b. not (j == k) && b) (w.flies_is k) ∙ grounded j t.over k t.is_out e

retried_kept : (g : History) (t : Transfers) (l : Lane) (j n : ℕ) (bytes : List ℕ) → AreOf g t → GoesOn (Retried l j n) t → AreOf ((Retried l j n, bytes) ∷ g) (after (Retried l j n) t)
retried_kept g t l j n bytes w e =
    let tries_are : more_if (j == t.over) (attempts g t.over) ≡ t.tries + 1 = rw (eq-eqb j t.over e.0) (ap (λ i. i + 1) w.tries_are) in
    let untried : (k : ℕ) → t.over < k → more_if (j == k) (attempts g k) ≡ 0 = λ k h. rw (ne_eqb j k (λ i. omega (arith, e.0))) (w.untried k h) in
    assumption (w, retried_counts t w.counts e.2, none_flies g t j w e.0, tries_are, untried)

-- what a line says that ends transfer j, whichever line it is
record Ends (g : History) (t : Transfers) (j : ℕ) : Type 0 where
  ended_is : (k : ℕ) → (j == k || ended g k) ≡ nat_lt k (t.over + 1)
  flies_is : (k : ℕ) → (not (j == k) && flies g k) ≡ false
  tries_are : attempts g (t.over + 1) ≡ 0
  untried : (k : ℕ) → t.over + 1 < k → attempts g k ≡ 0
  marked_below : (k : ℕ) → t.over + 1 ≤ k → k < length t.all → is_some (mark g k) ≡ nat_lt k t.marked

ends_next_one : (g : History) (t : Transfers) (j : ℕ) → AreOf g t → j ≡ t.over → Ends g t j
ends_next_one g t j w e = record {
  ended_is = λ k. ap (λ b. j == k || b) (w.ended_is k) ∙ over_more j t.over k e;
  flies_is = none_flies g t j w e;
  tries_are = w.untried (t.over + 1) (omega arith);
  untried = λ k h. w.untried k (omega arith);
  marked_below = λ k h made. w.marked_below k (omega arith) made;
}

landed_kept : (g : History) (t : Transfers) (l : Lane) (j : ℕ) (bytes : List ℕ) → AreOf g t → j ≡ t.over → t.over < length t.all → AreOf ((Landed l j, bytes) ∷ g) (after (Landed l j) t)
landed_kept g t l j bytes w e low =
    let ends = ends_next_one g t j w e in
    let ended_is : (k : ℕ) → ended ((Landed l j, bytes) ∷ g) k ≡ nat_lt k (t.over + 1) = λ k. before_first (j == k) (landed g k) (failed g k) (was_cut g k) ∙ ends.ended_is k in
    assumption (w, over_counts t t.is_halted w.counts low, ended_is, ends)

halt_is : (g : History) (l : Lane) (j : ℕ) (bytes : List ℕ) (kind : FaultKind) (is_halted : Bool) → halted g ≡ is_halted → halted ((Failed l j kind, bytes) ∷ g) ≡ halts kind is_halted
halt_is g l j bytes Halt is_halted e = refl
halt_is g l j bytes Proto is_halted e = e

failed_kept : (g : History) (t : Transfers) (l : Lane) (j : ℕ) (kind : FaultKind) (bytes : List ℕ) → AreOf g t → j ≡ t.over → t.over < length t.all → AreOf ((Failed l j kind, bytes) ∷ g) (after (Failed l j kind) t)
failed_kept g t l j kind bytes w e low =
    let ends = ends_next_one g t j w e in
    let ended_is : (k : ℕ) → ended ((Failed l j kind, bytes) ∷ g) k ≡ nat_lt k (t.over + 1) = λ k. before_second (j == k) (landed g k) (failed g k) (was_cut g k) ∙ ends.ended_is k in
    assumption (w, over_counts t (halts kind t.is_halted) w.counts low, ended_is, ends, halt_is g l j bytes kind t.is_halted w.halted_is)

cut_kept : (g : History) (t : Transfers) (l : Lane) (j c : ℕ) (bytes : List ℕ) → AreOf g t → j ≡ t.over → t.over < length t.all → AreOf ((Cut l j c, bytes) ∷ g) (after (Cut l j c) t)
cut_kept g t l j c bytes w e low =
    let ends = ends_next_one g t j w e in
    let ended_is : (k : ℕ) → ended ((Cut l j c, bytes) ∷ g) k ≡ nat_lt k (t.over + 1) = λ k. before_third (j == k) (landed g k) (failed g k) (was_cut g k) ∙ ends.ended_is k in
    assumption (w, over_counts t t.is_halted w.counts low, ended_is, ends)

-- MARKS

-- those from the first that isn't over are marked up to k, and no others
marked_up_to : (over marked size j k : ℕ) (m : Option ℕ) (c : ℕ) → j ≡ max over marked → over ≤ k → is_some m ≡ nat_lt k marked → is_some (told_if (j == k) c m) ≡ nat_lt k (j + 1)
marked_up_to over marked size j k m c e h is = elim (cases_eq j k) [
  | inl same ↦ rw (eq-eqb j k same, lt-ltb k (j + 1) (omega arith)) refl
  | inr apart ↦ rw (ne_eqb j k apart) (is ∙ elim (cases_lt k j) [
    | inl low ↦ rw (lt-ltb k (j + 1) (omega arith), lt-ltb k marked (omega arith)) refl
    | inr high ↦ rw (le-ltb k (j + 1) (omega arith), le-ltb k marked (omega arith)) refl
  ])
]

marked_kept : (g : History) (t : Transfers) (l : Lane) (j c : ℕ) (bytes : List ℕ) → AreOf g t → GoesOn (Marked l j c) t → AreOf ((Marked l j c, bytes) ∷ g) (after (Marked l j c) t)
marked_kept g t l j c bytes w e = record {
  counts = marked_counts t j c w.counts low;
  made_is = rw marked_length w.made_is;
  span_is = λ k. w.span_is k ∙ sym (marked_spans j c t.all k);
  mark_is = λ k. elim (cases_eq j k) [
    | inl same ↦ rw (eq-eqb j k same) (subst (λ i. Some c ≡ mark_in (slice_get (marked_at j c t.all) i)) same (sym (marked_here j c t.all low)))
    | inr apart ↦ rw (ne_eqb j k apart) (w.mark_is k ∙ sym (marked_other j c t.all k apart))
  ];
  ended_is = w.ended_is;
  flies_is = w.flies_is;
  tries_are = w.tries_are;
  untried = w.untried;
  home_is = w.home_is;
  marked_below = λ k h made. marked_up_to t.over t.marked (length t.all) j k (mark g k) c e.0 h (w.marked_below k h (let m : length (marked_at j c t.all) ≡ length t.all = marked_length j c t.all in omega arith));
  halted_is = w.halted_is;
}
  where
    low : j < length t.all
    low = let first : max t.over t.marked < length t.all = e.1 in let same : j ≡ max t.over t.marked = e.0 in omega arith

-- THE REST

home_kept : (g : History) (t : Transfers) (l : Lane) (j : ℕ) (bytes : List ℕ) → AreOf g t → t.home < t.over → AreOf ((TxHome l j, bytes) ∷ g) (after (TxHome l j) t)
home_kept g t l j bytes w low = let home_is : returned g + 1 ≡ t.home + 1 = ap (λ i. i + 1) w.home_is in assumption (w, home_counts t w.counts low, home_is)

cleared_kept : (g : History) (t : Transfers) (l : Lane) (bytes : List ℕ) → AreOf g t → AreOf ((Cleared l, bytes) ∷ g) (after (Cleared l) t)
cleared_kept g t l bytes w = assumption (w, halt_counts t false w.counts, refl)

settled_kept : (g : History) (t : Transfers) (t1 r1 t2 r2 : ℕ) (bytes : List ℕ) → AreOf g t → AreOf ((Settled t1 r1 t2 r2, bytes) ∷ g) (after (Settled t1 r1 t2 r2) t)
settled_kept g t t1 r1 t2 r2 bytes w = assumption (w, halt_counts t false w.counts, refl)

pub lines_kept : LinesKeepTransfers
lines_kept g t (Made l k a b) bytes w e = made_kept g t l k a b bytes w e
lines_kept g t (Flying l k) bytes w e = flying_kept g t l k bytes w e
lines_kept g t (Landed l k) bytes w e = landed_kept g t l k bytes w e.0 (out_made t w.counts e.1)
lines_kept g t (Failed l k kind) bytes w e = failed_kept g t l k kind bytes w e.0 (out_made t w.counts e.1)
lines_kept g t (Retried l k n) bytes w e = retried_kept g t l k n bytes w e
lines_kept g t (Cut l k c) bytes w e = cut_kept g t l k c bytes w e.0 e.1
lines_kept g t (Marked l k c) bytes w e = marked_kept g t l k c bytes w e
lines_kept g t (TxHome l k) bytes w e = home_kept g t l k bytes w e.1
lines_kept g t (Cleared l) bytes w e = cleared_kept g t l bytes w
lines_kept g t (Settled t1 r1 t2 r2) bytes w e = settled_kept g t t1 r1 t2 r2 bytes w
lines_kept g t line bytes w e = assumption w
