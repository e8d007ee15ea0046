-- What the whole program answers, with its workers: its statuses, what each says, and where each is due.
use Rattle.std.specs.Prelude.{◌≡◌, ◌↔◌, ℕ, ◌≤◌, List, [], ◌++◌, length, ◌⊎◌, Option, Some, None, Ok}
use Rattle.std.specs.Io.KnownBytes.{Consumes}
use Rattle.un_frame.specs.Params.{Agree}
use Rattle.un_journal.specs.Script.{Script}
use Rattle.un_journal.specs.History.{History}
use Rattle.un_script.specs.Reading.{script_of}
use Rattle.un_setup.specs.declared.agreement.Agreed.{Agreed}
use Rattle.usbnet_run.specs.Command.{Answers, ComesExactly, IsDrained, IsUnagreed, RefusesExactly, TooLargeExactly}
use Rattle.usbnet_run.specs.Kept.{IsKept}
use Rattle.usbnet_run.specs.Loads.{Loads}
use Rattle.usbnet_run.specs.Reading.{MOST_INPUT, OfInput}
use Rattle.usbnet_run.specs.Refusals.{Answer, Prints}
use Rattle.usbnet_run.specs.Runs.{HasPrinted, IsNoScript, IsRun, Runs, output}
use Rattle.usbnet_run.specs.Words.{command_of, job_of}
use Rattle.usbnet_run.specs.declared.words.Job.TheVariants.{Run, Load, Plain}

-- what the whole program answers, to all words but those of run and load as Answers says; a load reads nothing
pub data MainAnswers (words : List (List ℕ)) (given : List ℕ) (left : Option (List ℕ)) : Answer → Type 0 where
  answers_plain : (answer : Answer) → job_of words ≡ Plain → Answers words given left answer → MainAnswers words given left answer
  answers_run : (answer : Answer) → job_of words ≡ Run → OfInput (Runs IsKept) given left answer → MainAnswers words given left answer
  answers_load : (count : ℕ) (answer : Answer) → job_of words ≡ Load count → given ≡ [] → Loads count answer → MainAnswers words given left answer

-- what each status says, as in Ends
pub data MainEnds (words : List (List ℕ)) (given : List ℕ) (left held held' : Option (List ℕ)) (faults faults' status : ℕ) : Type 0 where
  main_ends : (answer : Answer) → MainAnswers words given left answer → Prints held held' faults faults' answer status
      → MainEnds words given left held held' faults faults' status

-- each refusal comes exactly where it is due
pub record MainRefusesExactly (words : List (List ℕ)) (given : List ℕ) (status : ℕ) : Type 0 where
  pub of_plain : job_of words ≡ Plain → RefusesExactly words given status
  pub of_words : (status ≡ 4) ↔ ((job_of words ≡ Plain) × (command_of words ≡ None))
  pub of_script : job_of words ≡ Run → ComesExactly given status 5 (IsNoScript given)
  pub of_setup : job_of words ≡ Run → ComesExactly given status 6 (IsUnagreed given)
  pub of_size : job_of words ≡ Run → TooLargeExactly given status
  pub of_load : (count : ℕ) → job_of words ≡ Load count → (status ≡ 0) ⊎ ((status ≡ 1) ⊎ (status ≡ 3))

abbrev pub MainRefusalsAreExact : Type 0
MainRefusalsAreExact = (words : List (List ℕ)) (given : List ℕ) (left held held' : Option (List ℕ)) (faults faults' status : ℕ)
    → MainEnds words given left held held' faults faults' status → MainRefusesExactly words given status

-- the text begins with what serial or run prints of a history, and goes on in any way
pub data BeginsWithOutput (text : List ℕ) (history : History) : Type 0 where
  of_serial : (given more : List ℕ) (script : Script) (agreed : Agreed) → IsRun IsDrained given script agreed history
      → text ≡ output script agreed history ++ more → BeginsWithOutput text history
  of_run : (given more : List ℕ) (script : Script) (agreed : Agreed) → IsRun IsKept given script agreed history
      → text ≡ output script agreed history ++ more → BeginsWithOutput text history

-- A text tells one history: two runs whose outputs begin it have the same history, whatever their scripts are.
abbrev pub HistoryIsOne : Type 0
HistoryIsOne = (text : List ℕ) (g h : History) → BeginsWithOutput text g → BeginsWithOutput text h → g ≡ h

-- Completeness: where the words ask for a run, the source told a script's text that isn't too long and whose parameters agree, a status that isn't a fault's is 0, or
-- want of memory's; and at 0 the whole text was read, and the sink grew by the output of one history, which is done.
abbrev pub RunIsComplete : Type 0
RunIsComplete = (words : List (List ℕ)) (text given : List ℕ) (left held held' : Option (List ℕ)) (faults faults' : ℕ) (script : Script) (status : ℕ)
    → MainEnds words given left held held' faults faults' status → Consumes (Some text) left given
    → job_of words ≡ Run → length text ≤ MOST_INPUT → script_of text ≡ Ok script → Agree script.params
    → (status ≡ 2 → ⊥) → (status ≡ 3 → ⊥) → ((status ≡ 0) × (given ≡ text) × HasPrinted IsKept text script held held') ⊎ (status ≡ 1)
