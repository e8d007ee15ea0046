-- What the lines of a lane, g, the newest first, count to, where un_journal has no word for it.
use Rattle.std.specs.Prelude.{ℕ, ◌+◌, ◌-◌, ◌/◌, Bool, true, false, List, [], ◌∷◌, length, Option, Some, None}
use Rattle.un_frame.specs.declared.kinds.Verdict.{Verdict}
use Rattle.un_frame.specs.declared.kinds.Verdict.TheVariants.{Short, Long, Filtered}
use Rattle.un_frame.specs.declared.params.Lane.{Lane}
use Rattle.un_journal.specs.declared.lines.Line.TheVariants.{Refused, Landed, Failed, Cut, Dropped}
use Rattle.un_journal.specs.Script.{Script, frames_of}
use Rattle.un_journal.specs.History.{History, taken, consumed, made, made_bytes, span, given, more_if}
use Rattle.un_report.specs.declared.tally.Consumed.{Consumed}
use Rattle.un_report.specs.declared.tally.Tally.{Tally}

abbrev pub is_short : Verdict → Bool
is_short Short = true
is_short _ = false

abbrev pub is_long : Verdict → Bool
is_long Long = true
is_long _ = false

abbrev pub is_filtered : Verdict → Bool
is_filtered Filtered = true
is_filtered _ = false

-- the refused lines with such a verdict
abbrev pub refusals : (Verdict → Bool) → History → ℕ
refusals test [] = 0
refusals test ((Refused l s why, bytes) ∷ g) = more_if (test why) (refusals test g)
refusals test (e ∷ g) = refusals test g

-- how many datagrams a span has
abbrev pub span_size : Option (ℕ × ℕ) → ℕ
span_size None = 0
span_size (Some s) = s.1 - s.0

-- the datagrams in the spans of failed, of cut and of dropped lines
abbrev pub failed_datagrams : History → ℕ
failed_datagrams [] = 0
failed_datagrams ((Failed l k kind, bytes) ∷ g) = failed_datagrams g + span_size (span g k)
failed_datagrams (e ∷ g) = failed_datagrams g

abbrev pub cut_datagrams : History → ℕ
cut_datagrams [] = 0
cut_datagrams ((Cut l k c, bytes) ∷ g) = cut_datagrams g + span_size (span g k)
cut_datagrams (e ∷ g) = cut_datagrams g

abbrev pub dropped_datagrams : History → ℕ
dropped_datagrams [] = 0
dropped_datagrams ((Dropped l a b c, bytes) ∷ g) = dropped_datagrams g + (b - a)
dropped_datagrams (e ∷ g) = dropped_datagrams g

-- the packets of a transfer: the full ones, and the short one that ends it
abbrev pub packets_of : ℕ → List ℕ → ℕ
packets_of packet bytes = length bytes / packet + 1

-- the packets of the transfers that landed
abbrev pub landed_packets : ℕ → History → ℕ
landed_packets packet [] = 0
landed_packets packet ((Landed l k, bytes) ∷ g) = landed_packets packet g + packets_of packet (made_bytes g k)
landed_packets packet (e ∷ g) = landed_packets packet g

-- all that is counted in a lane
abbrev pub counts : ℕ → History → Tally
counts packet g = record {
  taken = taken g;
  short = refusals is_short g;
  long = refusals is_long g;
  filtered = refusals is_filtered g;
  given = length (given g);
  transfers = made g;
  failed = failed_datagrams g;
  cut = cut_datagrams g;
  dropped = dropped_datagrams g;
  packets = landed_packets packet g;
  consumed = record { first = consumed g 0; second = consumed g 1; third = consumed g 2; fourth = consumed g 3 };
}

-- the frames of a sender that weren't consumed, and those of all senders of a lane
abbrev pub unread : Script → Lane → ℕ → ℕ → ℕ
unread script lane sender done = length (frames_of script lane sender) - done

abbrev pub fed : Script → Lane → Consumed → ℕ
fed script lane done =
    unread script lane 0 done.first + unread script lane 1 done.second + unread script lane 2 done.third + unread script lane 3 done.fourth

-- the datagrams that were accepted and are neither delivered nor lost
abbrev pub left_over : Tally → ℕ
left_over t = t.taken - (t.given + t.failed + t.cut + t.dropped)
