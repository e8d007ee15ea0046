-- What one line more adds to the counts of a lane, and how far they are bounded; how far the transfers of a lane have been followed.
use Rattle.std.specs.Prelude.{◌≡◌, ℕ, ◌+◌, ◌-◌, ◌*◌, ◌/◌, ◌≤◌, ◌==◌, Bool, true, false, Option, Some, None, take, List, slice_get, if◌then◌else◌}
use Rattle.un_frame.specs.declared.params.Lane.{Lane}
use Rattle.un_frame.specs.Lanes.{same_lane}
use Rattle.un_frame.specs.declared.kinds.Phase.{Phase}
use Rattle.un_journal.specs.declared.lines.Line.{Line}
use Rattle.un_journal.specs.declared.lines.Line.TheVariants.{Took, Refused, Made, Landed, Failed, Cut, Dropped, Gave, Settled}
use Rattle.un_journal.specs.declared.controls.Due.{Due}
use Rattle.un_journal.specs.History.{History, past, made, more_if, ends}
use Rattle.un_journal.specs.Lookup.{after_control, after_settled}
use Rattle.un_report.specs.declared.tally.Consumed.{Consumed}
use Rattle.un_report.specs.declared.tally.Tally.{Tally}
use Rattle.un_report.specs.declared.lane_count.LaneCount.{LaneCount}
use Rattle.un_report.specs.Counts.{is_short, is_long, is_filtered, counts}

-- a line that ends a transfer; one that is tried again hasn't ended
abbrev pub is_end : Line → Bool
is_end (Landed l k) = true
is_end (Failed l k kind) = true
is_end (Cut l k c) = true
is_end line = false

abbrev pub consume : ℕ → Consumed → Consumed
consume s c = record {
  first = more_if (s == 0) c.first;
  second = more_if (s == 1) c.second;
  third = more_if (s == 2) c.third;
  fourth = more_if (s == 3) c.fourth;
}

-- one line more that ends none
abbrev pub line_counted : Line → Tally → Tally
line_counted (Took l s) t = record t { taken = t.taken + 1; consumed = consume s t.consumed }
line_counted (Refused l s why) t = record t {
  short = more_if (is_short why) t.short;
  long = more_if (is_long why) t.long;
  filtered = more_if (is_filtered why) t.filtered;
  consumed = consume s t.consumed;
}
line_counted (Made l k a b) t = record t { transfers = t.transfers + 1 }
line_counted (Dropped l a b c) t = record t { dropped = t.dropped + (b - a) }
line_counted (Gave l n) t = record t { given = t.given + 1 }
line_counted line t = t

-- one line more that ends a transfer of so many datagrams and bytes
abbrev pub end_counted : Line → ℕ → ℕ → ℕ → Tally → Tally
end_counted (Landed l k) datagrams bytes packet t = record t { packets = t.packets + (bytes / packet + 1) }
end_counted (Failed l k kind) datagrams bytes packet t = record t { failed = t.failed + datagrams }
end_counted (Cut l k c) datagrams bytes packet t = record t { cut = t.cut + datagrams }
end_counted line datagrams bytes packet t = t

-- counts of n lines, and sums of numbers of 64 bits over n lines
abbrev pub IsWithin : ℕ → Tally → Type 0
IsWithin n t =
    (t.taken ≤ n) × (t.short ≤ n) × (t.long ≤ n) × (t.filtered ≤ n) × (t.given ≤ n) × (t.transfers ≤ n)
    × (t.consumed.first ≤ n) × (t.consumed.second ≤ n) × (t.consumed.third ≤ n) × (t.consumed.fourth ≤ n)
    × (t.failed ≤ n * 18446744073709551616) × (t.cut ≤ n * 18446744073709551616) × (t.dropped ≤ n * 18446744073709551616) × (t.packets ≤ n * 18446744073709551616)

-- the span of a line of the lane that makes a transfer
abbrev pub made_span : Lane → Line → Option (ℕ × ℕ)
made_span lane (Made l k a b) = if same_lane lane l then Some (a, b) else None
made_span lane line = None

-- What is known of a lane after i lines of a history: its counts, and a place up to which it has made just the transfers that
-- have ended. Transfers end in the order of their serials, so the next line that makes one is that of the next that ends.
pub record IsLaneCount (packet : ℕ) (lane : Lane) (h : History) (i : ℕ) (before : LaneCount) : Type 0 where
  pub counted : before.tally ≡ counts packet (past lane (take i h))
  pub within : IsWithin i before.tally
  pub order : before.next ≤ i
  pub ended : made (past lane (take before.next h)) ≡ ends (past lane (take i h))

-- the phase after one line more
abbrev pub phase_after_line : List Due → Line → Phase → Phase
phase_after_line controls (Line.Control c f) phase = after_control (slice_get controls c) phase
phase_after_line controls (Settled t1 r1 t2 r2) phase = after_settled phase
phase_after_line controls line phase = phase
