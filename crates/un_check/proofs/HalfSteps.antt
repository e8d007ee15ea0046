-- What is said of each step of a lane is what the step writes.
use Rattle.std.proofs.Common.{◌≡◌, ◌≢◌, ℕ, ◌-◌, Bool, true, false, not, ◌&&◌, List, [], ◌∷◌, ◌++◌, map, length, reverse, Option, Some, None, unwrap_or, is_some, slice_get, refl, sym, ap, ◌∙◌, subst, if◌then◌else◌}
use Rattle.std.specs.List.{list_all}
use Rattle.std.specs.Option.{option_map}
use Rattle.std.proofs.lemmas.Option.{slice_get-map}
use Rattle.un_frame.specs.declared.params.Lane.{Lane}
use Rattle.un_frame.specs.declared.params.Lane.TheVariants.{Outward, Inward}
use Rattle.un_frame.specs.declared.params.Params.{Params}
use Rattle.un_frame.specs.declared.kinds.Phase.{Phase}
use Rattle.un_frame.specs.declared.kinds.Phase.TheVariants as phases
use Rattle.un_frame.specs.declared.kinds.Verdict.{Verdict}
use Rattle.un_frame.specs.Params.{AreInRange, Agree}
use Rattle.un_frame.specs.Verdict.{verdict_of}
use Rattle.un_journal.specs.declared.lines.Line.{Line}
use Rattle.un_journal.specs.declared.lines.Line.TheVariants.{Gave}
use Rattle.un_journal.specs.declared.actions.Answer.{Answer}
use Rattle.un_journal.specs.Script.{Script, Frame}
use Rattle.un_journal.specs.History.{Entry, History, past, posted, concerns}
use Rattle.un_journal.specs.Lookup.{phase_of, works, is_awake, is_stopping, is_deferring, controls_done, feed_head, datagrams, built_frames}
use Rattle.un_journal.specs.LaneSteps.{Outcome, Writes, Answers, bare, datagram_bytes, deliver_next, clear_set, post, unlink_first}
use Rattle.un_journal.specs.Step.{Work, Offer, Tick, Take, Land, TxDone, RxDone, Deliver, Refill, Unlink, ClearHalt, Settle, work, judge, offer, offer_head, refill, unlink, clear_halt, is_still, lane_works}
use Rattle.un_journal.specs.Fits.{Legal, goes_on, Works}
use Rattle.un_journal.proofs.ForReader.{Formed, legal_formed, wire_holds, own_past, outcome_fits}
use Rattle.un_check.specs.Says.{Says, SaysAll}
use Rattle.un_check.specs.Half.{Half, Keeps, frame_at, home}
use Rattle.un_check.specs.HalfLines.{said, one, judged, offered, given, head_of}
use Rattle.un_check.specs.HalfCalls.{is_silent}
use Rattle.un_check.specs.HalfLaws.{WorkIsSaid, SilenceIsStill, IsOfLane}
use Rattle.un_check.specs.BuildingLines.{offer_lines, tick_lines}
use Rattle.un_check.specs.TransferLines.{unlink_line, clear_line}
use Rattle.un_check.specs.ReceivingLines.{deliver_entry, deliver_number, post_line}
use Rattle.un_check.proofs.BuildingSteps.{offer_says, tick_says}
use Rattle.un_check.proofs.TransferSteps.{take_said, land_said, tx_done_said, unlink_said, clear_said}
use Rattle.un_check.proofs.ReceivingSteps.{rx_done_says, deliver_says, post_says, posted_counts}
use Rattle.un_check.proofs.HalfKept.{head_kept, home_kept}

-- one line, or none, as a list of lines
says_all : (o : Option Line) (outcome : Outcome) → Says (option_map bare o) outcome → SaysAll (one o) outcome
says_all None outcome w = w
says_all (Some line) outcome w = w

-- what is said where a test passes, of a step that answers where it doesn't
says_if : (b : Bool) (lines : Option History) (outcome : Outcome) (answer : Answer) → SaysAll lines outcome → SaysAll (if b then lines else None) (if b then outcome else Answers answer)
says_if true lines outcome answer w = w
says_if false lines outcome answer w = refl

-- STEPS IN SOME PHASES

refill_said : (script : Script) (phase : Phase) (lane : Lane) (g : History) (half : Half) → Keeps script lane g half
    → SaysAll (if is_awake phase then one (post_line lane half.receiving) else None) (refill script phase lane g)
refill_said script phases.Up lane g half w = says_all (post_line lane half.receiving) (post script.params lane g) (post_says script.params lane g half.receiving w.receiving_is)
refill_said script phase lane g half w = refl

clear_halt_said : (script : Script) (phase : Phase) (lane : Lane) (g : History) (half : Half) → Keeps script lane g half
    → SaysAll (if is_awake phase then one (clear_line lane half.transfers) else None) (clear_halt phase lane g)
clear_halt_said script phases.Up lane g half w = says_all (clear_line lane half.transfers) (clear_set lane g) (clear_said lane g half.transfers w.transfers_are)
clear_halt_said script phase lane g half w = refl

-- one step of a stop
unlinked_said : (script : Script) (phase : Phase) (lane : Lane) (cause : ℕ) (g : History) (half : Half) → Keeps script lane g half
    → SaysAll (if is_stopping phase then one (unlink_line (is_deferring phase lane) lane cause half.receiving.posted half.transfers) else None) (unlink phase lane cause g)
unlinked_said script phases.Stopping lane cause g half w =
    says_all (unlink_line (is_deferring phases.Stopping lane) lane cause half.receiving.posted half.transfers) (unlink phases.Stopping lane cause g)
    (unlink_said phases.Stopping lane cause g half.transfers half.receiving.posted refl w.transfers_are (posted_counts script.params lane g half.receiving w.receiving_is))
unlinked_said script phase lane cause g half w = refl

-- OFFERS

module _ (script : Script) (lane : Lane) (sender : ℕ) (g : History) (half : Half) (w : Keeps script lane g half) where
  judged_said : (frame : Frame) → feed_head script lane g sender ≡ Some frame → (v : Verdict) → SaysAll (judged lane sender frame half v) (judge script lane sender g v)
  judged_said frame head Verdict.Take =
      subst (λ n. SaysAll (offer_lines sender n (home half) frame half.building) (judge script lane sender g Verdict.Take)) w.transfers_are.made_is
      (offer_says script lane sender (home half) g half.building frame w.built head (home_kept script lane g half w).0)
  judged_said frame head Verdict.Short = refl
  judged_said frame head Verdict.Long = refl
  judged_said frame head Verdict.Filtered = refl

  head_said : (phase : Phase) (o : Option Frame) → feed_head script lane g sender ≡ o → SaysAll (offered script phase lane sender half o) (offer_head script phase lane sender g o)
  head_said phase None head = refl
  head_said phase (Some frame) head =
      says_if (works phase) (judged lane sender frame half (verdict_of script.params lane frame)) (judge script lane sender g (verdict_of script.params lane frame)) (Answer.Down phase)
      (judged_said frame head (verdict_of script.params lane frame))

  pub offered_said : (phase : Phase) → SaysAll (offered script phase lane sender half (head_of script lane half sender)) (offer script phase lane sender g)
  offered_said phase =
      subst (λ o. SaysAll (offered script phase lane sender half o) (offer script phase lane sender g)) (head_kept script lane g half sender w)
      (head_said phase (feed_head script lane g sender) refl)

-- DELIVERIES

gave_concerns : (lane : Lane) (n : ℕ) (bytes : List ℕ) → concerns lane (Gave lane n, bytes) ≡ true
gave_concerns Outward n bytes = refl
gave_concerns Inward n bytes = refl

module _ (script : Script) (h : History) (lane : Lane) (half : Half) (in_range : AreInRange script.params) (agree : Agree script.params) (legal : Legal script h) (w : Keeps script lane (past lane h) half) where
  -- the bytes of a datagram in its transfer are those that were accepted
  bytes_given : (n : ℕ) (bytes : List ℕ) → deliver_next script.params lane (past lane h) ≡ Writes ((Gave lane n, bytes) ∷ [])
      → bytes ≡ unwrap_or (option_map (frame_at script lane) (slice_get half.accepted n)) []
  bytes_given n bytes e = sym (ap (λ o. unwrap_or o []) (sym (slice_get-map (frame_at script lane) half.accepted n) ∙ (ap (λ ds. slice_get ds n) (sym w.accepted_are) ∙ formed.kept.gave_well.0)))
    where
      formed : Formed script lane ((Gave lane n, bytes) ∷ past lane h)
      formed = subst (Formed script lane) (own_past h (Gave lane n, bytes) lane (gave_concerns lane n bytes))
          (legal_formed script (h ++ (Gave lane n, bytes) ∷ []) (wire_holds script.params in_range agree)
          (goes_on h ((Gave lane n, bytes) ∷ []) (Works (Deliver lane)) legal (outcome_fits script h ((Gave lane n, bytes) ∷ []) (Works (Deliver lane)) e)) lane)

  given_said : (o : Option (ℕ × ℕ)) → Says (deliver_entry script.params lane (past lane h) o) (deliver_next script.params lane (past lane h))
      → SaysAll (given script lane half o) (deliver_next script.params lane (past lane h))
  given_said None s = s
  given_said (Some d) s = s ∙ ap (λ bytes. Writes ((Gave lane d.1, bytes) ∷ [])) (bytes_given d.1 (datagram_bytes script.params (past lane h) d.0 d.1) s)

  -- EVERY STEP

  abbrev phase : Phase
  phase = phase_of script h

  abbrev cause : ℕ
  cause = controls_done (reverse h) - 1

  -- a work of this lane; the lane that it names is this one
  own_said : (w' : Work) → IsOfLane lane w' → w' ≢ Settle → SaysAll (said script phase lane cause half w') (work script h w')
  own_said (Offer l sender) own not_settle = subst (λ i. SaysAll (said script phase lane cause half (Offer i sender)) (work script h (Offer i sender))) (sym own) (offered_said script lane sender (past lane h) half w phase)
  own_said (Tick l) own not_settle =
      subst (λ i. SaysAll (said script phase lane cause half (Tick i)) (work script h (Tick i))) (sym own)
      (subst (λ n. SaysAll (tick_lines n (home half) half.building) (work script h (Tick lane))) w.transfers_are.made_is
      (tick_says script lane (home half) (past lane h) half.building w.built (home_kept script lane (past lane h) half w).0))
  own_said (Take l) own not_settle =
      subst (λ i. SaysAll (said script phase lane cause half (Take i)) (work script h (Take i))) (sym own)
      (says_all _ _ (take_said phase lane (past lane h) half.transfers half.receiving.posted w.transfers_are (posted_counts script.params lane (past lane h) half.receiving w.receiving_is)))
  own_said (Land l) own not_settle =
      subst (λ i. SaysAll (said script phase lane cause half (Land i)) (work script h (Land i))) (sym own)
      (says_all _ _ (land_said script lane (past lane h) half.transfers w.transfers_are))
  own_said (TxDone l) own not_settle =
      subst (λ i. SaysAll (said script phase lane cause half (TxDone i)) (work script h (TxDone i))) (sym own)
      (says_all _ _ (tx_done_said lane (past lane h) half.transfers w.transfers_are))
  own_said (RxDone l) own not_settle =
      subst (λ i. SaysAll (said script phase lane cause half (RxDone i)) (work script h (RxDone i))) (sym own)
      (says_all _ _ (rx_done_says script.params lane (past lane h) half.receiving w.receiving_is))
  own_said (Deliver l) own not_settle =
      subst (λ i. SaysAll (said script phase lane cause half (Deliver i)) (work script h (Deliver i))) (sym own)
      (given_said (deliver_number half.receiving.reading) (deliver_says script.params lane (past lane h) half.receiving w.receiving_is))
  own_said (Refill l) own not_settle =
      subst (λ i. SaysAll (said script phase lane cause half (Refill i)) (work script h (Refill i))) (sym own) (refill_said script phase lane (past lane h) half w)
  own_said (Unlink l) own not_settle =
      subst (λ i. SaysAll (said script phase lane cause half (Unlink i)) (work script h (Unlink i))) (sym own) (unlinked_said script phase lane cause (past lane h) half w)
  own_said (ClearHalt l) own not_settle =
      subst (λ i. SaysAll (said script phase lane cause half (ClearHalt i)) (work script h (ClearHalt i))) (sym own) (clear_halt_said script phase lane (past lane h) half w)
  own_said Settle own not_settle = absurd (not_settle refl)

pub work_said : WorkIsSaid
work_said script h lane half w' in_range agree legal w own not_settle = own_said script h lane half in_range agree legal w w' own not_settle

-- SILENCE

-- nothing is said exactly where nothing is written
silent_one : (o : Option History) (outcome : Outcome) → SaysAll o outcome → not (is_some o) ≡ is_still outcome
silent_one None outcome s = sym s
silent_one (Some lines) outcome s = sym (ap is_still s)

pub silence_is : SilenceIsStill
silence_is script h lane half in_range agree legal w =
    rw (
      sent 0,
      sent 1,
      sent 2,
      sent 3,
      at (Tick lane) refl (λ e. cc),
      at (Take lane) refl (λ e. cc),
      at (TxDone lane) refl (λ e. cc),
      at (RxDone lane) refl (λ e. cc),
      at (Deliver lane) refl (λ e. cc),
      at (Refill lane) refl (λ e. cc),
      at (Unlink lane) refl (λ e. cc),
      at (ClearHalt lane) refl (λ e. cc),
    ) refl
  where
    at : (w' : Work) → IsOfLane lane w' → w' ≢ Settle
        → not (is_some (said script (phase_of script h) lane (controls_done (reverse h) - 1) half w')) ≡ is_still (work script h w')
    at w' own not_settle = silent_one _ _ (work_said script h lane half w' in_range agree legal w own not_settle)

    sent : (sender : ℕ) → not (is_some (said script (phase_of script h) lane (controls_done (reverse h) - 1) half (Offer lane sender))) ≡ is_still (work script h (Offer lane sender))
    sent sender = at (Offer lane sender) refl (λ e. cc)
