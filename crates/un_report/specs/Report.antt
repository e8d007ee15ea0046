-- The text of a report, as a function of the script, the agreement and the history.
use Rattle.std.specs.Prelude.{ℕ, List, [], ◌∷◌, ◌++◌, codes, decimal, Option, Some, None, if◌then◌else◌}
use Rattle.std.specs.List.{flat_map}
use Rattle.un_frame.specs.Spelling.{lane_word, class_word}
use Rattle.hex.specs.Hex.{encode_lower}
use Rattle.un_frame.specs.declared.params.Params.{Params}
use Rattle.un_frame.specs.declared.params.Lane.{Lane}
use Rattle.un_frame.specs.declared.params.Lane.TheVariants.{Outward, Inward}
use Rattle.un_frame.specs.declared.kinds.Phase.{Phase}
use Rattle.un_frame.specs.declared.kinds.Phase.TheVariants.{Up, Asleep, Stopping, Leaving, Down, Away}
use Rattle.un_frame.specs.Lanes.{builds_blocks, same_lane}
use Rattle.un_classreq.specs.declared.setup.Setup.{Setup}
use Rattle.un_classreq.specs.Setup.{setup_bytes}
use Rattle.un_setup.specs.declared.exchange.Exchange.{Exchange}
use Rattle.un_setup.specs.declared.agreement.Agreed.{Agreed}
use Rattle.un_journal.specs.declared.lines.Line.{Line}
use Rattle.un_journal.specs.declared.lines.Line.TheVariants.{Gave}
use Rattle.un_journal.specs.Script.{Script}
use Rattle.un_journal.specs.History.{Entry, History, past}
use Rattle.un_journal.specs.Lookup.{phase_of}
use Rattle.un_report.specs.declared.tally.Tally.{Tally}
use Rattle.un_report.specs.Counts.{counts, fed, left_over}

abbrev pub phase_word : Phase → List ℕ
phase_word Up = codes "up"
phase_word Asleep = codes "asleep"
phase_word Stopping = codes "stopping"
phase_word Leaving = codes "leaving"
phase_word Down = codes "down"
phase_word Away = codes "away"

-- the largest block; a class without blocks has none
abbrev pub block_of : Params → ℕ
block_of params = if builds_blocks params.class then params.block else 0

unfoldable pub class_line : Params → List ℕ
class_line params = codes "class " ++ class_word params.class ++ codes "\n"

unfoldable pub sizes_line : Params → List ℕ
sizes_line params = codes "sizes " ++ decimal params.segment ++ codes " " ++ decimal params.packet ++ codes " " ++ decimal (block_of params) ++ codes "\n"

unfoldable pub opening : Params → List ℕ
opening params = codes "report\n" ++ class_line params ++ sizes_line params

-- THE SET-UP

-- bytes as a word; none are a dash
abbrev pub payload_word : List ℕ → List ℕ
payload_word [] = codes "-"
payload_word (b ∷ bytes) = encode_lower (b ∷ bytes)

unfoldable pub control_head : Setup → List ℕ
control_head setup = codes "control " ++ encode_lower (setup_bytes setup) ++ codes " "

unfoldable pub control_line : Exchange → List ℕ
control_line e = control_head e.setup ++ payload_word e.payload ++ codes "\n"

unfoldable pub notify_line : List ℕ → List ℕ
notify_line note = codes "notify " ++ encode_lower note ++ codes "\n"

unfoldable pub set_up : Agreed → List ℕ
set_up agreed = opening agreed.params ++ flat_map control_line agreed.exchanges ++ flat_map notify_line agreed.notes

-- THE LANES

-- a count: its name and the number
unfoldable pub item : List ℕ → ℕ → List ℕ
item name n = codes " " ++ name ++ codes " " ++ decimal n

-- the frames that were accepted and refused; what became of the accepted ones; what is left, and what was made
unfoldable pub offered : Tally → List ℕ
offered t = item (codes "taken") t.taken ++ item (codes "short") t.short ++ item (codes "long") t.long ++ item (codes "filtered") t.filtered

unfoldable pub fates : Tally → List ℕ
fates t = item (codes "given") t.given ++ item (codes "failed") t.failed ++ item (codes "cut") t.cut ++ item (codes "dropped") t.dropped

unfoldable pub rest : Tally → ℕ → List ℕ
rest t feed = item (codes "left") (left_over t) ++ item (codes "feed") feed ++ item (codes "transfers") t.transfers ++ item (codes "packets") t.packets

unfoldable pub lane_line : Lane → Tally → ℕ → List ℕ
lane_line lane t feed = codes "lane " ++ lane_word lane ++ offered t ++ fates t ++ rest t feed ++ codes "\n"

-- a delivered datagram
unfoldable pub frame_head : Lane → ℕ → List ℕ
frame_head lane n = codes "frame " ++ lane_word lane ++ codes " " ++ decimal n ++ codes " "

unfoldable pub delivered_line : Lane → ℕ → List ℕ → List ℕ
delivered_line lane n bytes = frame_head lane n ++ encode_lower bytes ++ codes "\n"

-- the number that a line of the lane delivers
abbrev pub given_number : Lane → Line → Option ℕ
given_number lane (Gave l n) = if same_lane lane l then Some n else None
given_number lane other = None

abbrev pub delivered_if : Lane → List ℕ → Option ℕ → List ℕ
delivered_if lane bytes None = []
delivered_if lane bytes (Some n) = delivered_line lane n bytes

abbrev pub frame_line : Lane → Entry → List ℕ
frame_line lane (told, bytes) = delivered_if lane bytes (given_number lane told)

-- the counts of a lane, and its delivered datagrams
unfoldable pub lane_part : Script → Lane → Tally → History → List ℕ
lane_part script lane t history = lane_line lane t (fed script lane t.consumed) ++ flat_map (frame_line lane) history

unfoldable pub lanes : Script → Tally → Tally → History → List ℕ
lanes script outward inward history = lane_part script Outward outward history ++ lane_part script Inward inward history

-- THE WHOLE

unfoldable pub last_lines : Phase → List ℕ
last_lines phase = codes "phase " ++ phase_word phase ++ codes "\nend\n"

unfoldable pub report : Script → Agreed → History → List ℕ
report script agreed history =
    set_up agreed
    ++ lanes script (counts agreed.params.packet (past Outward history)) (counts agreed.params.packet (past Inward history)) history
    ++ last_lines (phase_of script history)
