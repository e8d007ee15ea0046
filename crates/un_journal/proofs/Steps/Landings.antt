-- A landing writes one line, and nothing flies after it.
use Rattle.std.proofs.Common.{◌≡◌, ℕ, ◌+◌, ◌<◌, ◌≤◌, nat_lt, nat_le, Bool, true, false, not, ◌&&◌, ◌||◌, ◌==◌, [], ◌∷◌, Option, Some, None, refl, arith, if◌then◌else◌}
use Rattle.un_frame.specs.declared.params.Lane.{Lane}
use Rattle.std.proofs.lemmas.Bool.{false≢true, le-leb, lt-ltb}
use Rattle.std.proofs.lemmas.Bool.Decides.{nat_tests}
use Rattle.un_frame.specs.declared.kinds.FaultKind.{FaultKind}
use Rattle.un_frame.specs.declared.kinds.Planned.{Planned}
use Rattle.un_frame.specs.declared.kinds.Planned.TheVariants.{Clean, Proto, Halt}
use Rattle.un_journal.specs.declared.actions.Answer.{Answer}
use Rattle.un_frame.specs.Lanes.{same_lane}
use Rattle.un_journal.specs.declared.lines.Line.TheVariants.{Flying, Landed, Failed, Retried, Cut}
use Rattle.un_frame.specs.Attempts.{ArrivesAfter, RetriesAfter, FailsAfter}
use Rattle.un_text.proofs.ReadNumbers.{above}
use Rattle.un_journal.specs.Script.{Script, planned}
use Rattle.un_journal.specs.History.{Entry, History, concerns, flies}
use Rattle.un_journal.specs.LaneSteps.{Outcome, Writes, Answers, bare, land_marked, land_planned}

pub record LandLine (l : Lane) (k : ℕ) (o : Outcome) : Type 0 where
  pub line : Entry
  pub is_line : o ≡ Writes (line ∷ [])
  pub own : (i : Lane) → concerns i line ≡ same_lane i l
  pub grounds : (g : History) (j : ℕ) → flies g j ≡ false → flies (line ∷ (bare (Flying l k) ∷ g)) j ≡ false

end_one : (b f : Bool) → f ≡ false → (not b && (b || f)) ≡ false
end_one true f e = refl
end_one false f e = e

cut_line : (l : Lane) (k c : ℕ) → LandLine l k (Writes (bare (Cut l k c) ∷ []))
cut_line l k c = record { line = bare (Cut l k c); is_line = refl; own = λ i. refl; grounds = λ g j e. end_one (k == j) (flies g j) e }

landed_line : (l : Lane) (k : ℕ) → LandLine l k (Writes (bare (Landed l k) ∷ []))
landed_line l k = record { line = bare (Landed l k); is_line = refl; own = λ i. refl; grounds = λ g j e. end_one (k == j) (flies g j) e }

failed_line : (l : Lane) (k : ℕ) (kind : FaultKind) → LandLine l k (Writes (bare (Failed l k kind) ∷ []))
failed_line l k kind = record { line = bare (Failed l k kind); is_line = refl; own = λ i. refl; grounds = λ g j e. end_one (k == j) (flies g j) e }

retried_line : (l : Lane) (k n : ℕ) → LandLine l k (Writes (bare (Retried l k n) ∷ []))
retried_line l k n = record { line = bare (Retried l k n); is_line = refl; own = λ i. refl; grounds = λ g j e. end_one (k == j) (flies g j) e }

-- a fault on the bus, of a transfer of which no more than three attempts have failed
proto_line : (l : Lane) (k r times : ℕ) → r ≤ 3 → LandLine l k (land_planned l k r (Proto times))
proto_line l k r times low = go (nat_le times r) (nat_lt r 3) (r == 3) (λ a b. three r low a b)
  where
    three : (r : ℕ) → r ≤ 3 → nat_lt r 3 ≡ false → (r == 3) ≡ true
    three r low a = grind (arith, nat_tests)

    go : (a b c : Bool) → (b ≡ false → c ≡ true)
        → LandLine l k (if a then Writes (bare (Landed l k) ∷ []) else (if b then Writes (bare (Retried l k (r + 1)) ∷ []) else (if c then Writes (bare (Failed l k FaultKind.Proto) ∷ []) else Answers Answer.Nothing)))
    go true b c w = landed_line l k
    go false true c w = retried_line l k (r + 1)
    go false false true w = failed_line l k FaultKind.Proto
    go false false false w = absurd (false≢true (w refl))

planned_line : (l : Lane) (k r : ℕ) (p : Planned) → r ≤ 3 → LandLine l k (land_planned l k r p)
planned_line l k r Clean low = landed_line l k
planned_line l k r (Proto times) low = proto_line l k r times low
planned_line l k r Halt low = failed_line l k FaultKind.Halt

pub land_line : (script : Script) (l : Lane) (k r : ℕ) (m : Option ℕ) → r ≤ 3 → LandLine l k (land_marked l (planned script l k) k r m)
land_line script l k r (Some c) low = cut_line l k c
land_line script l k r None low = planned_line l k r (planned script l k) low

-- WHAT A PLAN WRITES

pub lands_writes : (l : Lane) (k r : ℕ) (p : Planned) → ArrivesAfter p r → land_planned l k r p ≡ Writes (bare (Landed l k) ∷ [])
lands_writes l k r Clean w = refl
lands_writes l k r (Proto times) w = rw (le-leb times r w) refl
lands_writes l k r Halt w = absurd w

pub retries_writes : (l : Lane) (k r : ℕ) (p : Planned) → RetriesAfter p r → land_planned l k r p ≡ Writes (bare (Retried l k (r + 1)) ∷ [])
retries_writes l k r Clean w = absurd w
retries_writes l k r (Proto times) w = rw (above times r w.0, lt-ltb r 3 w.1) refl
retries_writes l k r Halt w = absurd w

pub gives_up_writes : (l : Lane) (k r : ℕ) (p : Planned) (kind : FaultKind) → FailsAfter p r kind → land_planned l k r p ≡ Writes (bare (Failed l k kind) ∷ [])
gives_up_writes l k r Clean kind w = absurd w
gives_up_writes l k r (Proto times) kind w = rw (above times r w.0, w.1, w.2) refl
gives_up_writes l k r Halt kind w = rw w refl
