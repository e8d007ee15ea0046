-- What a script's lines say, and why a line is refused. Each line's tests stand in the order of the reasons: word, order, number, hex, range, count, control, fault.
use Rattle.std.specs.Prelude.{◌≡◌, ℕ, ◌+◌, ◌&&◌, ◌==◌, nat_lt, not, List, [], ◌∷◌, ◌++◌, length, codes, Option, Some, None, Result, Ok, Err, if◌then◌else◌}
use Rattle.std.specs.Str.{bytes_eq}
use Rattle.un_text.specs.Words.{words_in}
use Rattle.un_frame.specs.Spelling.{class_named, lane_named}
use Rattle.un_facts.specs.Results.{◌>>=◌, needs, given}
use Rattle.un_frame.specs.declared.params.Class.TheVariants.{Ecm}
use Rattle.un_frame.specs.declared.params.Lane.{Lane}
use Rattle.un_frame.specs.declared.kinds.Planned.{Planned}
use Rattle.un_frame.specs.declared.kinds.Planned.TheVariants.{Proto}
use Rattle.un_journal.specs.declared.controls.Control.{Control as Command}
use Rattle.un_journal.specs.declared.controls.Control.TheVariants.{Unlink}
use Rattle.un_journal.specs.declared.controls.Due.{Due}
use Rattle.un_journal.specs.Script.{Script, planned, frame_count}
use Rattle.un_script.specs.declared.why.Why.{Why}
use Rattle.un_script.specs.declared.why.Why.TheVariants.{Word, Order, Number, Range, Hex, Count, Control, Fault}
use Rattle.un_script.specs.declared.why.Refused.{Refused}
use Rattle.un_script.specs.declared.why.Refused.TheVariants as refusals
use Rattle.un_script.specs.declared.why.Refused.TheVariants.{Because}
use Rattle.un_script.specs.declared.why.ScriptError.{ScriptError}
use Rattle.un_script.specs.declared.why.ScriptError.TheVariants as errors
use Rattle.un_script.specs.declared.why.ScriptError.TheVariants.{BadLine}
use Rattle.un_script.specs.Words.{lines_of, is_skipped, is_spelled}
use Rattle.un_script.specs.Numbers.{number_of, bytes_of, byte_of}
use Rattle.un_frame.specs.Params.{defaults}
use Rattle.un_script.specs.Table.{control_named, fault_named, parameter_named, CLASS_PLACE, FILTER_PLACE, REQUESTS_PLACE, BODY_PLACE, place_of, may_follow, is_allowed, is_filter, is_pool_size, is_sender, is_want, is_planned_serial, is_fault, is_times, MOST_FRAMES, MOST_CONTROLS, MOST_FAULTS, with_number}
use Rattle.un_script.specs.Parts.{empty_script, with_frame, where_some, may_come}

-- what was read so far, and the place of the last line that was read, or 0
pub record Reading : Type 0 where
  pub place : ℕ
  pub script : Script

-- LINES

-- the line's place, where it may stand there
abbrev pub placed : ℕ → Reading → Result Script Why
placed place reading = needs Order (may_follow reading.place place) >>= λ _. Ok reading.script

abbrev pub now_at : ℕ → Script → Reading
now_at place script = record { place = place; script = script }

-- class C
abbrev pub class_line : Reading → List ℕ → Result Reading Why
class_line reading c = do
  class ← given Word (class_named c)
  script ← placed CLASS_PLACE reading
  Ok (now_at CLASS_PLACE (empty_script (defaults class)))

-- segment N, and the other parameters of one number
abbrev pub number_line : Reading → List ℕ → List ℕ → Result Reading Why
number_line reading key n = do
  parameter ← given Word (parameter_named key)
  script ← placed (place_of parameter) reading
  number ← given Number (number_of n)
  fits ← needs Range (is_allowed script.params.class parameter number)
  Ok (now_at (place_of parameter) (record script { params = with_number parameter number script.params }))

-- filter XX
abbrev pub filter_line : Reading → List ℕ → Result Reading Why
filter_line reading x = do
  script ← placed FILTER_PLACE reading
  filter ← given Hex (byte_of x)
  fits ← needs Range (is_filter filter)
  Ok (now_at FILTER_PLACE (record script { params = record script.params { filter = filter } }))

-- requests A B C D
abbrev pub requests_line : Reading → List ℕ → List ℕ → List ℕ → List ℕ → Result Reading Why
requests_line reading a b c d = do
  script ← placed REQUESTS_PLACE reading
  tx_out ← given Number (number_of a)
  rx_out ← given Number (number_of b)
  tx_in ← given Number (number_of c)
  rx_in ← given Number (number_of d)
  fit ← needs Range (is_pool_size tx_out && is_pool_size rx_out && is_pool_size tx_in && is_pool_size rx_in)
  Ok (now_at REQUESTS_PLACE (record script { params = record script.params { tx_out = tx_out; rx_out = rx_out; tx_in = tx_in; rx_in = rx_in } }))

-- out S HEX, in S HEX
abbrev pub frame_line : Reading → List ℕ → List ℕ → List ℕ → Result Reading Why
frame_line reading key s hex = do
  lane ← given Word (lane_named key)
  script ← placed BODY_PLACE reading
  sender ← given Number (number_of s)
  frame ← given Hex (bytes_of hex)
  fits ← needs Range (is_sender sender)
  room ← needs Count (nat_lt (frame_count script) MOST_FRAMES)
  Ok (now_at BODY_PLACE (with_frame lane sender frame script))

abbrev pub due_at : Lane → ℕ → Command → Due
due_at lane want control = record { lane = lane; want = want; control = control }

-- at L W CONTROL
abbrev pub control_line : Reading → List ℕ → List ℕ → Option Command → Result Reading Why
control_line reading l w command = do
  lane ← given Word (lane_named l)
  control ← given Word command
  script ← placed BODY_PLACE reading
  want ← given Number (number_of w)
  fits ← needs Range (is_want want)
  room ← needs Count (nat_lt (length script.controls) MOST_CONTROLS)
  comes ← needs Control (may_come script.controls (due_at lane want control))
  Ok (now_at BODY_PLACE (record script { controls = script.controls ++ due_at lane want control ∷ [] }))

-- one fault more, for a transfer that has none
abbrev pub fault_planned : Lane → ℕ → Planned → Script → Result Reading Why
fault_planned lane serial plan script = do
  room ← needs Count (nat_lt (length script.faults) MOST_FAULTS)
  first ← needs Fault (not (is_fault (planned script lane serial)))
  Ok (now_at BODY_PLACE (record script { faults = script.faults ++ record { lane = lane; serial = serial; planned = plan } ∷ [] }))

-- fault L K halt, fault L K proto
abbrev pub fault_line : Reading → List ℕ → List ℕ → List ℕ → Result Reading Why
fault_line reading l k f = do
  lane ← given Word (lane_named l)
  plan ← given Word (fault_named f)
  script ← placed BODY_PLACE reading
  serial ← given Number (number_of k)
  fits ← needs Range (is_planned_serial serial)
  fault_planned lane serial plan script

-- fault L K proto N
abbrev pub attempts_line : Reading → List ℕ → List ℕ → List ℕ → List ℕ → Result Reading Why
attempts_line reading l k f n = do
  lane ← given Word (lane_named l)
  proto ← needs Word (bytes_eq f (codes "proto"))
  script ← placed BODY_PLACE reading
  serial ← given Number (number_of k)
  times ← given Number (number_of n)
  fit ← needs Range (is_planned_serial serial && is_times times)
  fault_planned lane serial (Proto times) script

-- unlink out, unlink in
abbrev pub unlink_named : List ℕ → List ℕ → Option Command
unlink_named word l =
    if bytes_eq word (codes "unlink") then where_some (lane_named l) (λ lane. Some (Unlink lane)) else None

-- a line of these words
abbrev pub words_read : Reading → List (List ℕ) → Result Reading Why
words_read reading (key ∷ a ∷ []) =
    if bytes_eq key (codes "class") then class_line reading a
    else (if bytes_eq key (codes "filter") then filter_line reading a
    else number_line reading key a)
words_read reading (key ∷ a ∷ b ∷ []) = frame_line reading key a b
words_read reading (key ∷ a ∷ b ∷ c ∷ []) =
    if bytes_eq key (codes "at") then control_line reading a b (control_named c)
    else (if bytes_eq key (codes "fault") then fault_line reading a b c
    else Err Word)
words_read reading (key ∷ a ∷ b ∷ c ∷ d ∷ []) =
    if bytes_eq key (codes "at") then control_line reading a b (unlink_named c d)
    else (if bytes_eq key (codes "requests") then requests_line reading a b c d
    else (if bytes_eq key (codes "fault") then attempts_line reading a b c d
    else Err Word))
words_read reading words = Err Word

-- a line that isn't skipped
unfoldable pub line_read : Reading → List ℕ → Result Reading Why
line_read reading line = do
  spelled ← needs Word (is_spelled line)
  words_read reading (words_in line)

-- THE TEXT

-- what comes after a line of this number, or its refusal
abbrev pub at_line : {X : Type 0} → ℕ → Result Reading Why → (Reading → Result X (ℕ × Why)) → Result X (ℕ × Why)
at_line number (Ok reading) next = next reading
at_line number (Err why) next = Err (number, why)

-- Lines from a number on: the script, or the number of the first line that is refused, with the reason. Where no line came that isn't skipped,
-- the class line lacks, at the line after the last one.
unfoldable pub lines_read : ℕ → Reading → List (List ℕ) → Result Script (ℕ × Why)
lines_read number reading [] = if reading.place == 0 then Err (number, Word) else Ok reading.script
lines_read number reading (line ∷ lines) =
    if is_skipped line then lines_read (number + 1) reading lines
    else at_line number (line_read reading line) (λ next. lines_read (number + 1) next lines)

abbrev pub nothing_read : Reading
nothing_read = record { place = 0; script = empty_script (defaults Ecm) }

-- the script of a text; its lines count from 1
unfoldable pub script_of : List ℕ → Result Script (ℕ × Why)
script_of text = lines_read 1 nothing_read (lines_of text)

-- WHAT THE CODE ANSWERS

-- a call's answer and what it left are what a definition gives, unless memory ran out
abbrev pub Fails : {Y : Type 0} → Refused → Result Y Why → Type 0
Fails (Because why) read = read ≡ Err why
Fails refusals.NoMemory read = Unit {0}

abbrev pub Gives : {X Y : Type 0} → (X → Y) → Result X Refused → Result Y Why → Type 0
Gives view (Ok x) read = read ≡ Ok (view x)
Gives view (Err e) read = Fails e read

-- the same of a whole text
abbrev pub ReadFails : ScriptError → Result Script (ℕ × Why) → Type 0
ReadFails (BadLine line why) read = read ≡ Err (line, why)
ReadFails errors.NoMemory read = Unit {0}

abbrev pub ReadGives : {X : Type 0} → (X → Script) → Result X ScriptError → Result Script (ℕ × Why) → Type 0
ReadGives view (Ok x) read = read ≡ Ok (view x)
ReadGives view (Err e) read = ReadFails e read
