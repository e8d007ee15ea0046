-- The texts of some histories: an empty one, and two that have each kind of line between them, each lane, each reason of a refusal and
-- each fault.
use Rattle.std.specs.Prelude.{◌≡◌, true, false, [], ◌∷◌, codes, refl}
use Rattle.hex.specs.Hex.{encode_with}
use Rattle.std.specs.Fmt.{digits}
use Rattle.un_frame.specs.declared.params.Lane.TheVariants.{Outward, Inward}
use Rattle.un_frame.specs.declared.kinds.FaultKind.TheVariants.{Proto, Halt}
use Rattle.un_frame.specs.declared.kinds.Verdict.TheVariants.{Short, Long, Filtered}
use Rattle.un_journal.specs.declared.lines.Line.TheVariants.{Took, Refused, Made, Waited, Posted, Flying, Landed, Failed, Retried, Marked, Cut, Dropped, TxHome, Opened, Gave, Recalled, Cleared, Control, Settled}
use Rattle.un_journal.specs.Text.{trace, entry_text}

pub empty_trace : trace [] ≡ codes "trace\nend\n"
unfolding trace
empty_trace = refl

pub first_lines : trace ((Posted Outward, []) ∷ (Took Outward 0, []) ∷ (Refused Inward 3 Short, []) ∷ (Refused Outward 1 Long, []) ∷ (Refused Inward 2 Filtered, []) ∷ (Made Outward 0 0 1, 0x0a ∷ 0xff ∷ []) ∷ (Waited Inward, []) ∷ (Flying Outward 0, []) ∷ (Landed Outward 0, []) ∷ (TxHome Outward 0, []) ∷ (Opened Outward 0, []) ∷ (Gave Outward 0, 0x0a ∷ 0xff ∷ []) ∷ [])
    ≡ codes "trace\nposted out\ntook out 0\nrefused in 3 short\nrefused out 1 long\nrefused in 2 filtered\nmade out 0 0 1 0aff\nwaited in\nflying out 0\nlanded out 0\ntxhome out 0\nopened out 0\ngave out 0 0aff\nend\n"
unfolding trace entry_text encode_with digits
first_lines = refl

pub other_lines : trace ((Failed Inward 2 Proto, []) ∷ (Failed Inward 3 Halt, []) ∷ (Retried Outward 4 1, []) ∷ (Marked Outward 4 0, []) ∷ (Cut Outward 4 0, []) ∷ (Dropped Inward 5 7 1, []) ∷ (Recalled Inward, []) ∷ (Cleared Inward, []) ∷ (Control 0 true, []) ∷ (Control 12 false, []) ∷ (Settled 1 2 3 64, []) ∷ [])
    ≡ codes "trace\nfailed in 2 proto\nfailed in 3 halt\nretried out 4 1\nmarked out 4 0\ncut out 4 0\ndropped in 5 7 1\nrecalled in\ncleared in\ndid 0 1\ndid 12 0\nsettled 1 2 3 64\nend\n"
unfolding trace entry_text encode_with digits
other_lines = refl
