-- Scripts that lose nothing, and the frames that are accepted.
use Rattle.std.specs.Prelude.{◌≡◌, ◌<◌, ℕ, ◌-◌, ◌==◌, Bool, true, false, List, [], ◌∷◌, ◌++◌, ◌⊎◌, length, filter, unwrap_or, Some, if◌then◌else◌, slice_get}
use Rattle.un_frame.specs.declared.params.Lane.{Lane}
use Rattle.un_frame.specs.declared.params.Params.{Params}
use Rattle.un_frame.specs.declared.kinds.Verdict.{Verdict}
use Rattle.un_frame.specs.declared.kinds.Verdict.TheVariants.{Take}
use Rattle.un_frame.specs.Verdict.{verdict_of}
use Rattle.un_journal.specs.declared.lines.Line.{Line}
use Rattle.un_journal.specs.declared.lines.Line.TheVariants.{Took, Failed, Cut, Dropped}
use Rattle.un_journal.specs.declared.controls.Control.{Control as Order}
use Rattle.un_journal.specs.declared.controls.Due.{Due}
use Rattle.un_frame.specs.Attempts.{ArrivesLast}
use Rattle.un_journal.specs.Script.{Script, Frame, planned}
use Rattle.un_journal.specs.History.{History}
use Rattle.un_journal.specs.Lookup.{feed_head}

-- each transfer arrives at last, every control is a suspend or a resume, and the last one isn't a suspend
pub record LosesNothing (script : Script) : Type 0 where
  pub no_fault : (lane : Lane) (k : ℕ) → ArrivesLast (planned script lane k)
  pub only_sleeps : (c : ℕ) (due : Due) → slice_get script.controls c ≡ Some due
      → (due.control ≡ Order.Suspend) ⊎ (due.control ≡ Order.Resume)
  pub ends_awake : (due : Due) → 0 < length script.controls → slice_get script.controls (length script.controls - 1) ≡ Some due
      → due.control ≡ Order.Suspend → ⊥

abbrev pub is_take : Verdict → Bool
is_take Take = true
is_take _ = false

-- whether a line loses datagrams
abbrev pub loses : Line → Bool
loses (Failed l k kind) = true
loses (Cut l k c) = true
loses (Dropped l a b c) = true
loses line = false

-- a sender's accepted frames, in order
abbrev pub accepted : Script → Lane → History → ℕ → List Frame
accepted script lane [] sender = []
accepted script lane ((Took l s, bytes) ∷ g) sender =
    if s == sender then accepted script lane g sender ++ unwrap_or (feed_head script lane g s) [] ∷ []
    else accepted script lane g sender
accepted script lane (e ∷ g) sender = accepted script lane g sender

-- the frames of a list that are to be taken
abbrev pub good_frames : Params → Lane → List Frame → List Frame
good_frames params lane frames = filter (λ frame. is_take (verdict_of params lane frame)) frames
