-- What a command answers: its statuses, what each says, and where each is due.
use Rattle.std.specs.Prelude.{◌≡◌, ◌↔◌, ℕ, ◌<◌, ◌≤◌, List, [], length, ◌⊎◌, Option, Some, None, Ok, Err}
use Rattle.std.specs.Io.KnownBytes.{Appends, Consumes}
use Rattle.un_frame.specs.declared.params.Class.{Class}
use Rattle.un_frame.specs.Params.{Agree}
use Rattle.un_frame.specs.Wire.{Reads}
use Rattle.un_journal.specs.Script.{Script}
use Rattle.un_journal.specs.History.{History}
use Rattle.un_journal.specs.Drain.{drain}
use Rattle.un_script.specs.Reading.{script_of}
use Rattle.usbnet_run.specs.Decode.{Decodes, IsOutside, decoded_text}
use Rattle.usbnet_run.specs.Reading.{MOST_INPUT, OfInput}
use Rattle.usbnet_run.specs.Refusals.{Answer, Prints}
use Rattle.usbnet_run.specs.Runs.{HasPrinted, IsNoScript, Runs}
use Rattle.usbnet_run.specs.Words.{command_of}
use Rattle.usbnet_run.specs.declared.refusal.Refusal.TheVariants.{BadWords}
use Rattle.usbnet_run.specs.declared.words.Command.TheVariants.{Serial, Decode}

-- the one history that serial ends with: what the drain leaves of a new link
abbrev pub IsDrained : Script → History → Type 0
IsDrained script history = history ≡ drain script []

-- what the commands without threads answer to the words, and to the bytes that the source gave, with what it has left
pub data Answers (words : List (List ℕ)) (given : List ℕ) (left : Option (List ℕ)) : Answer → Type 0 where
  answers_serial : (answer : Answer) → command_of words ≡ Some Serial → OfInput (Runs IsDrained) given left answer → Answers words given left answer
  answers_decode : (class : Class) (answer : Answer) → command_of words ≡ Some (Decode class) → OfInput (Decodes class) given left answer → Answers words given left answer
  bad_words : command_of words ≡ None → given ≡ [] → Answers words given left (Err BadWords)

-- What each status says: there is such an answer, and the sink met it.
pub data Ends (words : List (List ℕ)) (given : List ℕ) (left held held' : Option (List ℕ)) (faults faults' status : ℕ) : Type 0 where
  ends : (answer : Answer) → Answers words given left answer → Prints held held' faults faults' answer status → Ends words given left held held' faults faults' status

-- the text of a script whose parameters don't agree
abbrev pub IsUnagreed : List ℕ → Type 0
IsUnagreed given = (script : Script) × (script_of given ≡ Ok script) × (Agree script.params → ⊥)

-- A refusal with the status `mine` comes only where it is due, and there always where the input isn't too long, but for want of memory, which is free, and a read
-- fault, which may come at any place of the input.
pub record ComesExactly (given : List ℕ) (status mine : ℕ) (IsDue : Type 0) : Type 0 where
  pub only : status ≡ mine → IsDue
  pub always : length given ≤ MOST_INPUT → IsDue → (status ≡ 2 → ⊥) → (status ≡ mine) ⊎ (status ≡ 1)

-- too long an input is refused as that, but for want of memory
pub record TooLargeExactly (given : List ℕ) (status : ℕ) : Type 0 where
  pub only : status ≡ 7 → MOST_INPUT < length given
  pub always : MOST_INPUT < length given → (status ≡ 7) ⊎ (status ≡ 1)

-- each refusal of the words and of their input
pub record RefusesExactly (words : List (List ℕ)) (given : List ℕ) (status : ℕ) : Type 0 where
  pub of_words : (status ≡ 4) ↔ (command_of words ≡ None)
  pub of_script : ComesExactly given status 5 ((command_of words ≡ Some Serial) × IsNoScript given)
  pub of_setup : ComesExactly given status 6 ((command_of words ≡ Some Serial) × IsUnagreed given)
  pub of_transfer : ComesExactly given status 8 ((class : Class) × (command_of words ≡ Some (Decode class)) × IsOutside class given)
  pub of_size : TooLargeExactly given status

abbrev pub RefusalsAreExact : Type 0
RefusalsAreExact = (words : List (List ℕ)) (given : List ℕ) (left held held' : Option (List ℕ)) (faults faults' status : ℕ)
    → Ends words given left held held' faults faults' status → RefusesExactly words given status

-- Completeness: where the words are right and the source told a script's text that isn't too long, whose parameters agree, a status that isn't a fault's
-- is 0, or want of memory's; and at 0 the whole text was read, and the sink grew by the output, which is a function of the input.
abbrev pub IsComplete : Type 0
IsComplete = (words : List (List ℕ)) (text given : List ℕ) (left held held' : Option (List ℕ)) (faults faults' : ℕ) (script : Script) (status : ℕ)
    → Ends words given left held held' faults faults' status → Consumes (Some text) left given
    → command_of words ≡ Some Serial → length text ≤ MOST_INPUT → script_of text ≡ Ok script → Agree script.params
    → (status ≡ 2 → ⊥) → (status ≡ 3 → ⊥) → ((status ≡ 0) × (given ≡ text) × HasPrinted IsDrained text script held held') ⊎ (status ≡ 1)

-- The same of a transfer that the class's grammar reads: at 0 the whole of it was read, and the sink grew by its text.
abbrev pub DecodeIsComplete : Type 0
DecodeIsComplete = (words : List (List ℕ)) (text given : List ℕ) (left held held' : Option (List ℕ)) (faults faults' : ℕ) (class : Class)
    (frames : List (List ℕ)) (commands status : ℕ) → Ends words given left held held' faults faults' status → Consumes (Some text) left given
    → command_of words ≡ Some (Decode class) → length text ≤ MOST_INPUT → Reads class text frames commands
    → (status ≡ 2 → ⊥) → (status ≡ 3 → ⊥)
    → ((status ≡ 0) × (given ≡ text) × Appends held held' (decoded_text class frames commands)) ⊎ (status ≡ 1)
