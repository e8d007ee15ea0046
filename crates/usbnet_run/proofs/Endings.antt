-- How a command ends: what becomes of the sink, and what a status says.
use Rattle.std.proofs.Common.{ℕ, ◌≤◌, ◌≡◌, List, [], ◌++◌, Option, Some, Result, Ok, Err, OnOk, OnErr, is_err, refl, sym, ap, subst, ◌∙◌, arith}
use Rattle.std.specs.Io.KnownBytes.{Appends}
use Rattle.un_frame.specs.declared.params.Class.{Class}
use Rattle.un_io.specs.Io.{Rose, Stopped}
use Rattle.un_io.specs.declared.whole.WriteFault.{WriteFault}
use Rattle.un_io.proofs.Known.{Appends-then, Stopped-then}
use Rattle.un_journal.specs.Script.{Script}
use Rattle.un_journal.specs.History.{History}
use Rattle.un_script.specs.declared.why.Why.{Why}
use Rattle.un_script.specs.Reading.{script_of}
use Rattle.un_setup.specs.declared.agreement.SetupFault.TheVariants.{BadDivisor, BadAlignment, NoFit, NoMemory as NoRoom}
use Rattle.un_text.specs.declared.page.Page.{Page}
use Rattle.un_text.specs.Puts.{Puts, blank}
use Rattle.un_text.proofs.Putting.{whole_cause, whole_stopped, whole_written}
use Rattle.usbnet_run.specs.Command.{Answers, answers_decode, answers_serial}
use Rattle.usbnet_run.specs.Decode.{Decodes, bad_transfer, decoded}
use Rattle.usbnet_run.specs.Loads.{Loads, loaded, wants_memory as load_wants_memory}
use Rattle.usbnet_run.specs.Reading.{OfInput, StopsReading}
use Rattle.usbnet_run.specs.Refusals.{Answer, Does, Ending, Finishes, Prints, Tells, Writes, done, ending_status, refusal_status, refused, stopped}
use Rattle.usbnet_run.specs.Runs.{Runs, not_a_script, not_agreed, printed, refuses, wants_memory}
use Rattle.usbnet_run.specs.Words.{command_of}
use Rattle.usbnet_run.specs.declared.refusal.Refusal.{Refusal}
use Rattle.usbnet_run.specs.declared.refusal.Refusal.TheVariants.{NoMemory, ReadFault, BadWords, BadScript, Setup, TooLarge, BadTransfer}
use Rattle.usbnet_run.specs.declared.words.Command.{Command}
use Rattle.usbnet_run.specs.declared.words.Command.TheVariants.{Serial, Decode}

pub script_given : (lent text : List ℕ) (read : Result Script (ℕ × Why)) → lent ≡ text → script_of lent ≡ read → script_of text ≡ read
script_given lent text read e h = ap script_of (sym e) ∙ h

pub decode_asked : (asked : Option Command) (command : Command) (class : Class) → Some command ≡ asked → command ≡ Decode class → asked ≡ Some (Decode class)
decode_asked asked command class is decode = sym is ∙ ap (λ k. Some k) decode

pub serial_asked : (asked : Option Command) (command : Command) → Some command ≡ asked → command ≡ Serial → asked ≡ Some Serial
serial_asked asked command is serial = sym is ∙ ap (λ k. Some k) serial

-- a command whose input isn't read whole
pub unread : (words : List (List ℕ)) (given : List ℕ) (left : Option (List ℕ)) (command : Command) (refusal : Refusal) → Some command ≡ command_of words → StopsReading given refusal
    → Answers words given left (Err refusal)
unread words given left Serial refusal is stop = answers_serial (Err refusal) (sym is) (OfInput.stops refusal stop)
unread words given left (Decode class) refusal is stop = answers_decode class (Err refusal) (sym is) (OfInput.stops refusal stop)

-- the refusal of an exit
pub one_refusal : {A : Type 0} (result : Result A Refusal) (told refusal : Refusal) → result ≡ Err told → result ≡ Err refusal → told ≡ refusal
one_refusal result told refusal a b = cc

-- WHAT BECOMES OF THE SINK

-- a text that was written as a whole
pub writes_of : (h i : Option (List ℕ)) (a b : ℕ) (lent text : List ℕ) (written : Result (Unit {0}) WriteFault) → lent ≡ text → OnOk written (Appends h i lent) → OnErr written (Stopped h i lent)
    → OnErr written (Rose a b) → Writes h i a b text written
writes_of h i a b lent text (Ok all) e t s r = subst (λ (x : List ℕ). Appends h i x) e t
writes_of h i a b lent text (Err fault) e t s r = (subst (λ (x : List ℕ). Stopped h i x) e s, r)

-- one that was written after another
pub writes_then : (h i j : Option (List ℕ)) (a b c : ℕ) (front back : List ℕ) (written : Result (Unit {0}) WriteFault) → Appends h i front → a ≤ b → OnOk written (Appends i j back)
    → OnErr written (Stopped i j back) → OnErr written (Rose b c) → Writes h j a c (front ++ back) written
writes_then h i j a b c front back (Ok all) before le t s r = Appends-then h i j front back before t
writes_then h i j a b c front back (Err fault) before le t s r = (Stopped-then h i j front back before s, λ few. let rose = r few in omega (arith, le, rose))

-- one that was put on a page
pub writes_put : (written : Result (Unit {0}) WriteFault) (h i : Option (List ℕ)) (a b : ℕ) (q : Page) (text : List ℕ) → q.pending ≡ [] → is_err written ≡ q.failed → Puts h a blank i b q text
    → Writes h i a b text written
writes_put (Ok all) h i a b q text none e u = whole_written (Ok all) h i a b q text none e u
writes_put (Err fault) h i a b q text none e u = (whole_stopped (Err fault) h i a b q text e u, whole_cause (Err fault) h i a b q text e u)

-- an answer of one kind as an answer of another
pub does_as : (P Q : Answer → Type 0) (h i : Option (List ℕ)) (a b : ℕ) (ending : Ending) → ((answer : Answer) → P answer → Q answer) → Does P h i a b ending → Does Q h i a b ending
does_as P Q h i a b (Ok written) f d = (d.0, f (Ok d.0) d.1, d.2)
does_as P Q h i a b (Err refusal) f d = (f (Err refusal) d.0, d.1, d.2)

pub is_answer : (P : Answer → Type 0) (h i : Option (List ℕ)) (a b : ℕ) (ending : Ending) (refusal : Refusal) → Does P h i a b ending → ending ≡ Err refusal → P (Err refusal)
is_answer P h i a b (Ok written) refusal d e = absurd (cc)
is_answer P h i a b (Err told) refusal d e = let same : told ≡ refusal = cc in subst (λ (r : Refusal). P (Err r)) same d.0

-- the sink after the end
pub finished : (P : Answer → Type 0) (h i j : Option (List ℕ)) (a b c : ℕ) (ending : Ending) → Does P h i a b ending → Finishes i j b c ending
    → (answer : Answer) × P answer × Prints h j a c answer (ending_status ending)
finished P h i j a b c (Ok (Ok all)) d same = (Ok d.0, d.1, done d.0 (subst (λ (x : Option (List ℕ)). Appends h x d.0) (sym same.0) d.2))
finished P h i j a b c (Ok (Err fault)) d same =
    (Ok d.0, d.1, stopped d.0 (subst (λ (x : Option (List ℕ)). Stopped h x d.0) (sym same.0) d.2.0) (subst (λ (n : ℕ). Rose a n) (sym same.1) d.2.1))
finished P h i j a b c (Err refusal) d told =
    let K : Option (List ℕ) → Type 0 = λ x. Tells x j b c refusal in
    let L : ℕ → Type 0 = λ n. Tells h j n c refusal in
    (Err refusal, d.0, refused refusal (subst L d.2 (subst K d.1 told)))

-- WHAT A STATUS SAYS

-- a refusal's status is neither 0 nor 3, and 2 is a read fault's alone
pub statuses : (refusal : Refusal) → (refusal_status refusal ≡ 0 → ⊥) × (refusal_status refusal ≡ 3 → ⊥) × (refusal_status refusal ≡ 2 → refusal ≡ ReadFault)
statuses NoMemory = (λ e. omega (arith, e), λ e. omega (arith, e), λ e. absurd (omega (arith, e)))
statuses ReadFault = (λ e. omega (arith, e), λ e. omega (arith, e), λ e. refl)
statuses BadWords = (λ e. omega (arith, e), λ e. omega (arith, e), λ e. absurd (omega (arith, e)))
statuses (BadScript line why) = (λ e. omega (arith, e), λ e. omega (arith, e), λ e. absurd (omega (arith, e)))
statuses (Setup (BadDivisor d r)) = (λ e. omega (arith, e), λ e. omega (arith, e), λ e. absurd (omega (arith, e)))
statuses (Setup (BadAlignment a)) = (λ e. omega (arith, e), λ e. omega (arith, e), λ e. absurd (omega (arith, e)))
statuses (Setup (NoFit s b)) = (λ e. omega (arith, e), λ e. omega (arith, e), λ e. absurd (omega (arith, e)))
statuses (Setup NoRoom) = (λ e. omega (arith, e), λ e. omega (arith, e), λ e. absurd (omega (arith, e)))
statuses TooLarge = (λ e. omega (arith, e), λ e. omega (arith, e), λ e. absurd (omega (arith, e)))
statuses (BadTransfer fault) = (λ e. omega (arith, e), λ e. omega (arith, e), λ e. absurd (omega (arith, e)))

pub write_fault : (h i : Option (List ℕ)) (a b : ℕ) (answer : Answer) (status : ℕ) → Prints h i a b answer status → status ≡ 3 → Rose a b
write_fault h i a b _ _ (done text t) e = absurd (omega (arith, e))
write_fault h i a b _ _ (stopped text t rose) e = rose
write_fault h i a b _ _ (refused refusal t) e = absurd ((statuses refusal).1 e)

pub read_fault : (ending : Ending) → ending_status ending ≡ 2 → ending ≡ Err ReadFault
read_fault (Ok (Ok all)) e = absurd (omega (arith, e))
read_fault (Ok (Err fault)) e = absurd (omega (arith, e))
read_fault (Err refusal) e = ap (λ (r : Refusal). Err r) ((statuses refusal).2 e)

-- what is done once the input was read is no read fault
pub run_reads : (EndsWith : Script → History → Type 0) (text : List ℕ) (answer : Answer) → Runs EndsWith text answer → answer ≡ Err ReadFault → ⊥
run_reads EndsWith text _ (printed script agreed history run) e = cc
run_reads EndsWith text _ (refuses refusal (wants_memory _ one)) e =
    let same : refusal ≡ ReadFault = cc in
    let two : refusal_status refusal ≡ 2 = ap refusal_status same in
    omega (arith, one, two)
run_reads EndsWith text _ (refuses _ (not_a_script line why is)) e = cc
run_reads EndsWith text _ (refuses _ (not_agreed script fault is none not six)) e = cc

pub decode_reads : (class : Class) (bytes : List ℕ) (answer : Answer) → Decodes class bytes answer → answer ≡ Err ReadFault → ⊥
decode_reads class bytes _ (decoded frames commands r) e = cc
decode_reads class bytes _ (bad_transfer fault out f) e = cc

pub load_reads : (count : ℕ) (answer : Answer) → Loads count answer → answer ≡ Err ReadFault → ⊥
load_reads count _ (loaded history is) e = cc
load_reads count _ load_wants_memory e = cc
