-- What each step on a lane's transfers writes, by what is kept of them.
use Rattle.std.proofs.Common.{◌≡◌, ℕ, zero, suc, ◌+◌, ◌-◌, ◌<◌, Bool, true, false, ◌==◌, nat_lt, nat_le, length, List, [], ◌∷◌, Option, Some, None, refl, sym, ap, subst, arith, inl, inr, if◌then◌else◌}
use Rattle.std.specs.Option.{option_map}
use Rattle.std.proofs.lemmas.Bool.{lt-ltb, le-ltb, cases_lt, false≢true}
use Rattle.un_facts.specs.Numbers.{one_if}
use Rattle.un_frame.specs.declared.kinds.FaultKind.{FaultKind}
use Rattle.un_frame.specs.declared.kinds.Phase.TheVariants.{Stopping}
use Rattle.un_frame.specs.declared.kinds.Planned.{Planned}
use Rattle.un_frame.specs.declared.kinds.Planned.TheVariants.{Clean, Proto, Halt}
use Rattle.un_frame.specs.declared.params.Lane.{Lane}
use Rattle.un_journal.specs.declared.actions.Answer.{Answer}
use Rattle.un_journal.specs.declared.lines.Line.{Line}
use Rattle.un_journal.specs.History.{History, halted, mark, posted, ended, returned, row_from}
use Rattle.un_journal.specs.Lookup.{is_asleep, is_deferring, queued}
use Rattle.un_journal.specs.LaneSteps.{Outcome, Writes, Answers, bare, take_head, take_first, take_with, land_marked, unlink_first}
use Rattle.un_journal.specs.Script.{planned}
use Rattle.un_journal.specs.Step.{land_from}
use Rattle.un_check.specs.Says.{Says}
use Rattle.un_check.specs.Transfers.{Transfers, AreOf}
use Rattle.un_check.specs.TransferLaws.{TakeIsSaid, LandIsSaid, TxDoneIsSaid, UnlinkIsSaid, ClearIsSaid}
use Rattle.un_check.specs.TransferLines.{first_unmarked, next_mark, takes, take_line, lands, land_line, marks_or_recalls}
use Rattle.un_check.proofs.TransferLookups.{flying_is, queued_is, unmarked_is, returned_is}

-- a line where a test holds, or where it doesn't
said_if : (b : Bool) (line : Line) (answer : Answer) → Says (option_map bare (if b then Some line else None)) (if b then Writes (bare line ∷ []) else Answers answer)
said_if true line answer = refl
said_if false line answer = refl

said_unless : (b : Bool) (line : Line) (answer : Answer) → Says (option_map bare (if b then None else Some line)) (if b then Answers answer else Writes (bare line ∷ []))
said_unless true line answer = refl
said_unless false line answer = refl

-- a row is empty, or has a first
row_some : (a m : ℕ) → 0 < m → row_from a m ≡ a ∷ row_from (a + 1) (m - 1)
row_some a zero h = absurd (omega arith)
row_some a (suc m) h = ap (λ i. a ∷ row_from (a + 1) i) (omega arith)

row_none : (a m : ℕ) → m ≡ 0 → row_from a m ≡ []
row_none a m e = ap (row_from a) e

-- TAKE

said_take : (a h z : Bool) (lane : Lane) (k : ℕ) → Says (option_map bare (if a then None else (if h then None else (if z then None else Some (Line.Flying lane k)))))
    (if a then Answers Answer.Asleep else (if h then Answers Answer.Halted else (if z then Answers Answer.NoBuffer else Writes (bare (Line.Flying lane k) ∷ []))))
said_take true h z lane k = refl
said_take false true z lane k = refl
said_take false false true lane k = refl
said_take false false false lane k = refl

head_said : (asleep : Bool) (lane : Lane) (g : History) (t : Transfers) (count : ℕ) (m : Option ℕ) → AreOf g t → posted g ≡ count
    → Says (option_map bare (takes asleep lane count t m)) (take_head asleep lane g t.over m)
head_said asleep lane g t count (Some c) w p = refl
head_said asleep lane g t count None w p =
    subst (λ n. Says (option_map bare (takes asleep lane n t None)) (take_head asleep lane g t.over None)) p
    (subst (λ h. Says (option_map bare (if asleep then None else (if h then None else (if posted g == 0 then None else Some (Line.Flying lane t.over))))) (take_head asleep lane g t.over None)) w.halted_is
    (said_take asleep (halted g) (posted g == 0) lane t.over))

first_said : (asleep : Bool) (lane : Lane) (g : History) (t : Transfers) (count : ℕ) → AreOf g t → posted g ≡ count
    → Says (option_map bare (if nat_lt t.over (length t.all) then takes asleep lane count t (next_mark t) else None)) (take_first asleep lane g (row_from t.over (length t.all - t.over)))
first_said asleep lane g t count w p = elim (cases_lt t.over (length t.all)) [
  | inl low ↦ subst (λ b. Says (option_map bare (if b then takes asleep lane count t (next_mark t) else None)) (take_first asleep lane g (row_from t.over (length t.all - t.over)))) (sym (lt-ltb t.over (length t.all) low))
      (subst (λ ks. Says (option_map bare (takes asleep lane count t (next_mark t))) (take_first asleep lane g ks)) (sym (row_some t.over (length t.all - t.over) (omega arith)))
      (subst (λ m. Says (option_map bare (takes asleep lane count t (next_mark t))) (take_head asleep lane g t.over m)) (sym (w.mark_is t.over))
      (head_said asleep lane g t count (next_mark t) w p)))
  | inr high ↦ subst (λ b. Says (option_map bare (if b then takes asleep lane count t (next_mark t) else None)) (take_first asleep lane g (row_from t.over (length t.all - t.over)))) (sym (le-ltb t.over (length t.all) high))
      (subst (λ ks. Says None (take_first asleep lane g ks)) (sym (row_none t.over (length t.all - t.over) (omega arith))) refl)
]

-- a line of the first that waits, unless one flies or the lane defers
queue_said : (b d asleep : Bool) (lane : Lane) (g : History) (over size : ℕ) (says : Option Line)
    → Says (option_map bare says) (take_first asleep lane g (row_from over (size - over)))
    → Says (option_map bare (if b then None else (if d then None else says)))
    (take_with asleep lane g (if d then [] else row_from (over + one_if b) (size - (over + one_if b))) (if b then over ∷ [] else []))
queue_said true d asleep lane g over size says s = refl
queue_said false true asleep lane g over size says s = refl
queue_said false false asleep lane g over size says s =
    subst (λ i. Says (option_map bare says) (take_first asleep lane g (row_from i (size - i)))) (let same : over ≡ over + 0 = omega arith in same) s

pub take_said : TakeIsSaid
take_said phase lane g t count w p =
    subst (λ ks. Says (option_map bare (take_line (is_asleep phase) (is_deferring phase lane) lane count t)) (take_with (is_asleep phase) lane g (queued phase lane g) ks)) (sym (flying_is g t w))
    (subst (λ ks. Says (option_map bare (take_line (is_asleep phase) (is_deferring phase lane) lane count t)) (take_with (is_asleep phase) lane g ks (if t.is_out then t.over ∷ [] else []))) (sym (queued_is phase lane g t w))
    (queue_said t.is_out (is_deferring phase lane) (is_asleep phase) lane g t.over (length t.all) _ (first_said (is_asleep phase) lane g t count w p)))

-- LAND

said_tries : (a b c : Bool) (landed retried failed : Line) → Says (option_map bare (if a then Some landed else (if b then Some retried else (if c then Some failed else None))))
    (if a then Writes (bare landed ∷ []) else (if b then Writes (bare retried ∷ []) else (if c then Writes (bare failed ∷ []) else Answers Answer.Nothing)))
said_tries true b c landed retried failed = refl
said_tries false true c landed retried failed = refl
said_tries false false true landed retried failed = refl
said_tries false false false landed retried failed = refl

lands_said : (lane : Lane) (plan : Planned) (t : Transfers) (m : Option ℕ) → Says (option_map bare (lands lane plan t m)) (land_marked lane plan t.over t.tries m)
lands_said lane plan t (Some c) = refl
lands_said lane Clean t None = refl
lands_said lane Halt t None = refl
lands_said lane (Proto times) t None = said_tries (nat_le times t.tries) (nat_lt t.tries 3) (t.tries == 3) (Line.Landed lane t.over) (Line.Retried lane t.over (t.tries + 1)) (Line.Failed lane t.over FaultKind.Proto)

out_said : (b : Bool) (lane : Lane) (k : ℕ) (says : Option Line) (outcome : Outcome) (land : List ℕ → Outcome) → land [] ≡ Answers Answer.Nothing → land (k ∷ []) ≡ outcome → Says (option_map bare says) outcome
    → Says (option_map bare (if b then says else None)) (land (if b then k ∷ [] else []))
out_said true lane k says outcome land none some s = subst (λ o. Says (option_map bare says) o) (sym some) s
out_said false lane k says outcome land none some s = subst (λ o. Says None o) (sym none) refl

pub land_said : LandIsSaid
land_said script lane g t w =
    subst (λ ks. Says (option_map bare (land_line lane (planned script lane t.over) t)) (land_from script lane g ks)) (sym (flying_is g t w))
    (out_said t.is_out lane t.over (lands lane (planned script lane t.over) t (next_mark t)) _ (land_from script lane g) refl refl
    (subst (λ r. Says (option_map bare (lands lane (planned script lane t.over) t (next_mark t))) (land_marked lane (planned script lane t.over) t.over r (mark g t.over))) (sym w.tries_are)
    (subst (λ m. Says (option_map bare (lands lane (planned script lane t.over) t (next_mark t))) (land_marked lane (planned script lane t.over) t.over t.tries m)) (sym (w.mark_is t.over))
    (lands_said lane (planned script lane t.over) t (next_mark t)))))

-- THE DONE LIST, STOPS AND THE HALT

pub tx_done_said : TxDoneIsSaid
tx_done_said lane g t w =
    subst (λ k. Says (option_map bare (if nat_lt t.home t.over then Some (Line.TxHome lane k) else None)) (if ended g (returned g) then Writes (bare (Line.TxHome lane (returned g)) ∷ []) else Answers Answer.Nothing)) w.home_is
    (subst (λ b. Says (option_map bare (if b then Some (Line.TxHome lane (returned g)) else None)) (if ended g (returned g) then Writes (bare (Line.TxHome lane (returned g)) ∷ []) else Answers Answer.Nothing)) (returned_is g t w)
    (said_if (ended g (returned g)) (Line.TxHome lane (returned g)) Answer.Nothing))

pub clear_said : ClearIsSaid
clear_said lane g t w = subst (λ b. Says (option_map bare (if b then Some (Line.Cleared lane) else None)) (if halted g then Writes (bare (Line.Cleared lane) ∷ []) else Answers Answer.Nothing)) w.halted_is (said_if (halted g) (Line.Cleared lane) Answer.Nothing)

unlink_row : (lane : Lane) (cause : ℕ) (g : History) (k size count : ℕ) → posted g ≡ count
    → Says (option_map bare (marks_or_recalls lane cause count (if nat_lt k size then Some k else None))) (unlink_first lane cause g (row_from k (size - k)))
unlink_row lane cause g k size count p = elim (cases_lt k size) [
  | inl low ↦ subst (λ b. Says (option_map bare (marks_or_recalls lane cause count (if b then Some k else None))) (unlink_first lane cause g (row_from k (size - k)))) (sym (lt-ltb k size low))
      (subst (λ ks. Says (Some (bare (Line.Marked lane k cause))) (unlink_first lane cause g ks)) (sym (row_some k (size - k) (omega arith))) refl)
  | inr high ↦ subst (λ b. Says (option_map bare (marks_or_recalls lane cause count (if b then Some k else None))) (unlink_first lane cause g (row_from k (size - k)))) (sym (le-ltb k size high))
      (subst (λ ks. Says (option_map bare (marks_or_recalls lane cause count None)) (unlink_first lane cause g ks)) (sym (row_none k (size - k) (omega arith)))
      (subst (λ n. Says (option_map bare (if n == 0 then None else Some (Line.Recalled lane))) (if posted g == 0 then Answers Answer.Nothing else Writes (bare (Line.Recalled lane) ∷ []))) p
      (said_unless (posted g == 0) (Line.Recalled lane) Answer.Nothing)))
]

pub unlink_said : UnlinkIsSaid
unlink_said Stopping lane cause g t count e w p =
    subst (λ ks. Says (option_map bare (marks_or_recalls lane cause count (if nat_lt (first_unmarked t) (length t.all) then Some (first_unmarked t) else None))) (unlink_first lane cause g ks)) (sym (unmarked_is Stopping lane g t w))
    (unlink_row lane cause g (first_unmarked t) (length t.all) count p)
unlink_said phase lane cause g t count e w p = absurd (false≢true e)
