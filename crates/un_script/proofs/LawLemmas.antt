-- Each line that is read leaves a ready script.
use Rattle.std.proofs.Common.{◌≡◌, ℕ, ◌+◌, ◌<◌, Bool, true, false, ◌&&◌, ◌||◌, ◌==◌, nat_lt, not, if◌then◌else◌, List, [], ◌∷◌, ◌++◌, Option, Some, None, Result, Ok, Err, refl, subst, arith, length}
use Rattle.std.proofs.lemmas.Bool.{and_parts, not-true}
use Rattle.std.proofs.lemmas.Bool.Decides.{nat_tests}
use Rattle.std.specs.List.{list_any}
use Rattle.std.specs.Prelude.{codes, IsTrue}
use Rattle.std.specs.Result.{result_ok}
use Rattle.std.specs.Str.{bytes_eq}
use Rattle.un_text.specs.Words.{words_in}
use Rattle.un_frame.specs.Spelling.{class_named, lane_named}
use Rattle.un_facts.specs.Results.{◌>>=◌, needs, given}
use Rattle.hex.specs.declared.error.FromHexError.{FromHexError}
use Rattle.hex.specs.Hex.{decode_of}
use Rattle.un_journal.specs.declared.controls.Control.{Control as Command}
use Rattle.un_journal.specs.Script.{Script, Frame, planned, frame_count}
use Rattle.un_frame.specs.declared.params.Lane.{Lane}
use Rattle.un_frame.specs.declared.kinds.Planned.{Planned}
use Rattle.un_frame.specs.declared.kinds.Planned.TheVariants.{Clean, Proto, Halt}
use Rattle.un_script.specs.declared.why.Why.{Why}
use Rattle.un_script.specs.declared.why.Why.TheVariants.{Word, Order, Number, Range, Hex, Count, Control, Fault}
use Rattle.un_script.specs.Words.{is_spelled, lines_of, is_skipped, has_no_byte}
use Rattle.un_script.specs.Numbers.{number_of, bytes_of, byte_of}
use Rattle.un_frame.specs.Params.{defaults}
use Rattle.un_script.specs.Table.{control_named, fault_named, parameter_named, place_of, is_allowed, is_filter, is_pool_size, is_sender, is_want, is_planned_serial, is_fault, is_times, may_follow, with_number, CLASS_PLACE, FILTER_PLACE, REQUESTS_PLACE, BODY_PLACE, MOST_FRAMES, MOST_CONTROLS, MOST_FAULTS}
use Rattle.un_script.specs.Parts.{HasBytes, empty_script, with_frame, may_come}
use Rattle.un_script.specs.Ready.{IsReady}
use Rattle.un_script.specs.Reading.{Reading, placed, now_at, class_line, number_line, filter_line, requests_line, frame_line, control_line, fault_line, attempts_line, fault_planned, due_at, unlink_named, words_read, line_read, at_line, lines_read, nothing_read, script_of}
use Rattle.un_script.specs.Law.{ReadScriptsAreReady}
use Rattle.un_script.proofs.Decoded.{decoded_some}
use Rattle.un_frame.proofs.Defaults.{defaults_in_range}
use Rattle.un_script.proofs.Ranges.{number_in_range, filter_in_range, pools_in_range, with_pools}
use Rattle.un_script.proofs.Readiness.{empty_ready, params_ready, frame_ready, control_ready, fault_ready}

-- what passes a test goes on
through : {A B : Type 0} (P : Type 0) (r : Result A Why) (f : A → Result B Why) (b : B) → ((a : A) → r ≡ Ok a → f a ≡ Ok b → P) → (r >>= f) ≡ Ok b → P
through P (Ok a) f b step h = step a refl h
through P (Err why) f b step h = absurd (cc)

needed : (why : Why) (holds : Bool) (u : Unit {0}) → needs why holds ≡ Ok u → holds ≡ true
needed why true u h = refl
needed why false u h = absurd (cc)

was_given : {X : Type 0} (why : Why) (o : Option X) (x : X) → given why o ≡ Ok x → o ≡ Some x
was_given why (Some y) x h = cc
was_given why None x h = absurd (cc)

is_placed : (place : ℕ) (reading : Reading) (script : Script) → placed place reading ≡ Ok script → reading.script ≡ script
is_placed place reading script h = through (reading.script ≡ script) (needs Order (may_follow reading.place place)) (λ _. Ok reading.script) script (λ u e same. cc) h

-- what a line that is read leaves
abbrev done : Reading → Result Reading Why
done reading = Ok reading

same_reading : (x y : Reading) → done x ≡ done y → x ≡ y
same_reading x y h = cc

ready_as : (x y : Reading) → IsReady x.script → done x ≡ done y → IsReady y.script
ready_as x y ready h = let P : Reading → Type 0 = λ r. IsReady r.script in subst P (same_reading x y h) ready

class_ready : (reading next : Reading) (c : List ℕ) → class_line reading c ≡ Ok next → IsReady next.script
class_ready reading next c h =
    through (IsReady next.script) (given Word (class_named c)) _ next (λ class e rest.
    through (IsReady next.script) (placed CLASS_PLACE reading) _ next (λ script at last. ready_as (now_at CLASS_PLACE (empty_script (defaults class))) next (empty_ready (defaults class) (defaults_in_range class)) last) rest) h

number_ready : (reading next : Reading) (key n : List ℕ) → IsReady reading.script → number_line reading key n ≡ Ok next → IsReady next.script
number_ready reading next key n ready h =
    through (IsReady next.script) (given Word (parameter_named key)) _ next (λ parameter e0 h0.
    through (IsReady next.script) (placed (place_of parameter) reading) _ next (λ script at h1.
    through (IsReady next.script) (given Number (number_of n)) _ next (λ number e2 h2.
    through (IsReady next.script) (needs Range (is_allowed script.params.class parameter number)) _ next (λ fits e3 h3.
    let was : IsReady script = subst IsReady (is_placed (place_of parameter) reading script at) ready in
    ready_as (now_at (place_of parameter) (record script { params = with_number parameter number script.params })) next
    (params_ready script (with_number parameter number script.params) was (number_in_range script.params parameter number was.in_range (needed Range _ fits e3))) h3) h2) h1) h0) h

filter_ready : (reading next : Reading) (x : List ℕ) → IsReady reading.script → filter_line reading x ≡ Ok next → IsReady next.script
filter_ready reading next x ready h =
    through (IsReady next.script) (placed FILTER_PLACE reading) _ next (λ script at h0.
    through (IsReady next.script) (given Hex (byte_of x)) _ next (λ filter e1 h1.
    through (IsReady next.script) (needs Range (is_filter filter)) _ next (λ fits e2 h2.
    let was : IsReady script = subst IsReady (is_placed FILTER_PLACE reading script at) ready in
    ready_as (now_at FILTER_PLACE (record script { params = record script.params { filter = filter } })) next
    (params_ready script (record script.params { filter = filter }) was (filter_in_range script.params filter was.in_range (needed Range _ fits e2))) h2) h1) h0) h

requests_ready : (reading next : Reading) (a b c d : List ℕ) → IsReady reading.script → requests_line reading a b c d ≡ Ok next → IsReady next.script
requests_ready reading next a b c d ready h =
    through (IsReady next.script) (placed REQUESTS_PLACE reading) _ next (λ script at h0.
    through (IsReady next.script) (given Number (number_of a)) _ next (λ tx_out e1 h1.
    through (IsReady next.script) (given Number (number_of b)) _ next (λ rx_out e2 h2.
    through (IsReady next.script) (given Number (number_of c)) _ next (λ tx_in e3 h3.
    through (IsReady next.script) (given Number (number_of d)) _ next (λ rx_in e4 h4.
    through (IsReady next.script) (needs Range (is_pool_size tx_out && is_pool_size rx_out && is_pool_size tx_in && is_pool_size rx_in)) _ next (λ fit e5 h5.
    let was : IsReady script = subst IsReady (is_placed REQUESTS_PLACE reading script at) ready in
    ready_as (now_at REQUESTS_PLACE (record script { params = with_pools script.params tx_out rx_out tx_in rx_in })) next
    (params_ready script (with_pools script.params tx_out rx_out tx_in rx_in) was (pools_in_range script.params tx_out rx_out tx_in rx_in was.in_range (needed Range _ fit e5))) h5) h4) h3) h2) h1) h0) h

below : (n limit : ℕ) → nat_lt n limit ≡ true → n < limit
below n limit h = grind (arith, nat_tests, h)

-- the bytes of a word that isn't empty
frame_some : (hex : List ℕ) (frame : Frame) → 0 < length hex → bytes_of hex ≡ Some frame → HasBytes frame
frame_some hex frame some e = by_result (decode_of hex) (λ bytes. decoded_some hex bytes some) e where
  by_result : (r : Result (List ℕ) FromHexError) → ((bytes : List ℕ) → r ≡ Ok bytes → 0 < length bytes) → result_ok r ≡ Some frame → HasBytes frame
  by_result (Ok bytes) some e = let same : bytes ≡ frame = cc in subst HasBytes same (some bytes refl)
  by_result (Err why) some e = absurd (cc)

frame_line_ready : (reading next : Reading) (key s hex : List ℕ) → 0 < length hex → IsReady reading.script → frame_line reading key s hex ≡ Ok next → IsReady next.script
frame_line_ready reading next key s hex some ready h =
    through (IsReady next.script) (given Word (lane_named key)) _ next (λ lane e0 h0.
    through (IsReady next.script) (placed BODY_PLACE reading) _ next (λ script at h1.
    through (IsReady next.script) (given Number (number_of s)) _ next (λ sender e2 h2.
    through (IsReady next.script) (given Hex (bytes_of hex)) _ next (λ frame e3 h3.
    through (IsReady next.script) (needs Range (is_sender sender)) _ next (λ fits e4 h4.
    through (IsReady next.script) (needs Count (nat_lt (frame_count script) MOST_FRAMES)) _ next (λ room e5 h5.
    ready_as (now_at BODY_PLACE (with_frame lane sender frame script)) next
    (frame_ready lane sender frame script (subst IsReady (is_placed BODY_PLACE reading script at) ready) (frame_some hex frame some (was_given Hex _ frame e3)) (below _ _ (needed Count _ room e5))) h5) h4) h3) h2) h1) h0) h

control_line_ready : (reading next : Reading) (l w : List ℕ) (command : Option Command) → IsReady reading.script → control_line reading l w command ≡ Ok next → IsReady next.script
control_line_ready reading next l w command ready h =
    through (IsReady next.script) (given Word (lane_named l)) _ next (λ lane e0 h0.
    through (IsReady next.script) (given Word command) _ next (λ control e1 h1.
    through (IsReady next.script) (placed BODY_PLACE reading) _ next (λ script at h2.
    through (IsReady next.script) (given Number (number_of w)) _ next (λ want e3 h3.
    through (IsReady next.script) (needs Range (is_want want)) _ next (λ fits e4 h4.
    through (IsReady next.script) (needs Count (nat_lt (length script.controls) MOST_CONTROLS)) _ next (λ room e5 h5.
    through (IsReady next.script) (needs Control (may_come script.controls (due_at lane want control))) _ next (λ comes e6 h6.
    ready_as (now_at BODY_PLACE (record script { controls = script.controls ++ due_at lane want control ∷ [] })) next
    (control_ready script (due_at lane want control) (subst IsReady (is_placed BODY_PLACE reading script at) ready) (needed Range _ fits e4) (below _ _ (needed Count _ room e5)) (needed Control _ comes e6)) h6) h5) h4) h3) h2) h1) h0) h

is_free : (plan : Planned) → not (is_fault plan) ≡ true → plan ≡ Clean
is_free Clean h = refl
is_free (Proto times) h = absurd (cc)
is_free Halt h = absurd (cc)

named_is_fault : (word : List ℕ) (plan : Planned) → fault_named word ≡ Some plan → IsTrue (is_fault plan)
named_is_fault word plan h = go (bytes_eq word (codes "halt")) (bytes_eq word (codes "proto")) plan h
  where
    go : (halt proto : Bool) (plan : Planned) → (if halt then Some Halt else (if proto then Some (Proto 1) else None)) ≡ Some plan → IsTrue (is_fault plan)
    go halt proto Clean e = absurd (no_clean halt proto e)
      where
        no_clean : (halt proto : Bool) → (if halt then Some Halt else (if proto then Some (Proto 1) else None)) ≡ Some Clean → ⊥
        no_clean true proto e = cc
        no_clean false true e = cc
        no_clean false false e = cc
    go halt proto (Proto times) e = refl
    go halt proto Halt e = refl

planned_ready : (lane : Lane) (serial : ℕ) (plan : Planned) (script : Script) (next : Reading) → IsReady script → IsTrue (is_planned_serial serial) → IsTrue (is_fault plan)
    → fault_planned lane serial plan script ≡ Ok next → IsReady next.script
planned_ready lane serial plan script next ready fits is_one h =
    through (IsReady next.script) (needs Count (nat_lt (length script.faults) MOST_FAULTS)) _ next (λ room e5 h5.
    through (IsReady next.script) (needs Fault (not (is_fault (planned script lane serial)))) _ next (λ first e6 h6.
    ready_as (now_at BODY_PLACE (record script { faults = script.faults ++ record { lane = lane; serial = serial; planned = plan } ∷ [] })) next
    (fault_ready script (record { lane = lane; serial = serial; planned = plan }) ready fits is_one (below _ _ (needed Count _ room e5)) (is_free _ (needed Fault _ first e6))) h6) h5) h

fault_line_ready : (reading next : Reading) (l k f : List ℕ) → IsReady reading.script → fault_line reading l k f ≡ Ok next → IsReady next.script
fault_line_ready reading next l k f ready h =
    through (IsReady next.script) (given Word (lane_named l)) _ next (λ lane e0 h0.
    through (IsReady next.script) (given Word (fault_named f)) _ next (λ plan e1 h1.
    through (IsReady next.script) (placed BODY_PLACE reading) _ next (λ script at h2.
    through (IsReady next.script) (given Number (number_of k)) _ next (λ serial e3 h3.
    through (IsReady next.script) (needs Range (is_planned_serial serial)) _ next (λ fits e4 h4.
    planned_ready lane serial plan script next (subst IsReady (is_placed BODY_PLACE reading script at) ready) (needed Range _ fits e4) (named_is_fault f plan (was_given Word _ plan e1)) h4) h3) h2) h1) h0) h

attempts_line_ready : (reading next : Reading) (l k f n : List ℕ) → IsReady reading.script → attempts_line reading l k f n ≡ Ok next → IsReady next.script
attempts_line_ready reading next l k f n ready h =
    through (IsReady next.script) (given Word (lane_named l)) _ next (λ lane e0 h0.
    through (IsReady next.script) (needs Word (bytes_eq f (codes "proto"))) _ next (λ proto e1 h1.
    through (IsReady next.script) (placed BODY_PLACE reading) _ next (λ script at h2.
    through (IsReady next.script) (given Number (number_of k)) _ next (λ serial e3 h3.
    through (IsReady next.script) (given Number (number_of n)) _ next (λ times e4 h4.
    through (IsReady next.script) (needs Range (is_planned_serial serial && is_times times)) _ next (λ fit e5 h5.
    planned_ready lane serial (Proto times) script next (subst IsReady (is_placed BODY_PLACE reading script at) ready) (and_parts _ _ (needed Range _ fit e5)).0 refl h5) h4) h3) h2) h1) h0) h

-- a choice of two lines
either : (b : Bool) (r q : Result Reading Why) (next : Reading) (P : Type 0) → (r ≡ Ok next → P) → (q ≡ Ok next → P) → (if b then r else q) ≡ Ok next → P
either true r q next P yes' no' h = yes' h
either false r q next P yes' no' h = no' h

refused : (why : Why) (next : Reading) (P : Type 0) → (r : Result Reading Why) → r ≡ Err why → r ≡ Ok next → P
refused why next P r e h = absurd (cc)

not_any : (a b rest : Bool) → (a || (b || (true || rest))) ≡ false → ⊥
not_any true b rest h = absurd (cc)
not_any false true rest h = absurd (cc)
not_any false false rest h = absurd (cc)

third_some : (a b c : List ℕ) (words : List (List ℕ)) → list_any has_no_byte (a ∷ b ∷ c ∷ words) ≡ false → 0 < length c
third_some a b [] words h = absurd (not_any (has_no_byte a) (has_no_byte b) (list_any has_no_byte words) h)
third_some a b (d ∷ ds) words h = omega arith

words_ready : (reading next : Reading) (words : List (List ℕ)) → list_any has_no_byte words ≡ false → IsReady reading.script → words_read reading words ≡ Ok next → IsReady next.script
words_ready reading next (key ∷ a ∷ []) some ready h =
    either (bytes_eq key (codes "class")) (class_line reading a) _ next (IsReady next.script) (class_ready reading next a)
    (λ g. either (bytes_eq key (codes "filter")) (filter_line reading a) (number_line reading key a) next (IsReady next.script) (filter_ready reading next a ready) (number_ready reading next key a ready) g) h
words_ready reading next (key ∷ a ∷ b ∷ []) some ready h = frame_line_ready reading next key a b (third_some key a b [] some) ready h
words_ready reading next (key ∷ a ∷ b ∷ c ∷ []) some ready h =
    either (bytes_eq key (codes "at")) (control_line reading a b (control_named c)) _ next (IsReady next.script) (control_line_ready reading next a b (control_named c) ready)
    (λ g. either (bytes_eq key (codes "fault")) (fault_line reading a b c) (Err Word) next (IsReady next.script) (fault_line_ready reading next a b c ready) (λ e. absurd (cc)) g) h
words_ready reading next (key ∷ a ∷ b ∷ c ∷ d ∷ []) some ready h =
    either (bytes_eq key (codes "at")) (control_line reading a b (unlink_named c d)) _ next (IsReady next.script) (control_line_ready reading next a b (unlink_named c d) ready)
    (λ g. either (bytes_eq key (codes "requests")) (requests_line reading a b c d) _ next (IsReady next.script) (requests_ready reading next a b c d ready)
    (λ q. either (bytes_eq key (codes "fault")) (attempts_line reading a b c d) (Err Word) next (IsReady next.script) (attempts_line_ready reading next a b c d ready) (λ e. absurd (cc)) q) g) h
words_ready reading next [] some ready h = absurd (cc)
words_ready reading next (key ∷ []) some ready h = absurd (cc)
words_ready reading next (key ∷ a ∷ b ∷ c ∷ d ∷ e ∷ rest) some ready h = absurd (cc)

line_ready : (reading next : Reading) (line : List ℕ) → IsReady reading.script → line_read reading line ≡ Ok next → IsReady next.script
unfolding line_read
line_ready reading next line ready h =
    through (IsReady next.script) (needs Word (is_spelled line)) (λ _. words_read reading (words_in line)) next (λ spelled e rest.
    words_ready reading next (words_in line) (not-true _ (and_parts _ _ (needed Word _ spelled e)).1) ready rest) h

abbrev end_of : Bool → ℕ → Script → Result Script (ℕ × Why)
end_of b number script = if b then Err (number, Word) else Ok script

ended : (b : Bool) (number : ℕ) (script end : Script) → IsReady script → end_of b number script ≡ Ok end → IsReady end
ended true number script end ready h = absurd (cc)
ended false number script end ready h = let e : script ≡ end = cc in subst IsReady e ready

mid : (number : ℕ) (r : Result Reading Why) (next : Reading → Result Script (ℕ × Why)) (end : Script) → at_line number r next ≡ Ok end → (reading : Reading) × (r ≡ Ok reading) × (next reading ≡ Ok end)
mid number (Ok reading) next end h = (reading, refl, h)
mid number (Err why) next end h = absurd (cc)

skipped_or : (b : Bool) (r q : Result Script (ℕ × Why)) (end : Script) (P : Type 0) → (r ≡ Ok end → P) → (q ≡ Ok end → P) → (if b then r else q) ≡ Ok end → P
skipped_or true r q end P skip read h = skip h
skipped_or false r q end P skip read h = read h

lines_ready : (number : ℕ) (reading : Reading) (lines : List (List ℕ)) (end : Script) → IsReady reading.script → lines_read number reading lines ≡ Ok end → IsReady end
unfolding lines_read
lines_ready number reading [] end ready h = ended (reading.place == 0) number reading.script end ready h
lines_ready number reading (line ∷ lines) end ready h =
    let later : (next : Reading) → IsReady next.script → lines_read (number + 1) next lines ≡ Ok end → IsReady end = λ next r g. lines_ready (number + 1) next lines end r g in
    skipped_or (is_skipped line) (lines_read (number + 1) reading lines) _ end (IsReady end) (later reading ready)
    (λ g. let step = mid number (line_read reading line) (λ next. lines_read (number + 1) next lines) end g in
    later step.0 (line_ready reading step.0 line ready step.1) step.2) h

pub read_ready : ReadScriptsAreReady
unfolding script_of
read_ready text script h = lines_ready 1 nothing_read (lines_of text) script (empty_ready _ (defaults_in_range _)) h
