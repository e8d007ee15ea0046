-- What the run of a script answers.
use Rattle.std.specs.Prelude.{◌≡◌, ℕ, List, ◌++◌, Option, Ok, Err}
use Rattle.std.specs.Io.KnownBytes.{Appends}
use Rattle.un_frame.specs.declared.params.Lane.{Lane}
use Rattle.un_frame.specs.Params.{Agree}
use Rattle.un_journal.specs.Script.{Script, frames_of}
use Rattle.un_journal.specs.History.{History, past, taken, given, row_from}
use Rattle.un_journal.specs.Loss.{LosesNothing, accepted, good_frames}
use Rattle.un_journal.specs.Fits.{IsDone}
use Rattle.un_journal.specs.Log.{AreEntries}
use Rattle.un_journal.specs.Text.{trace}
use Rattle.un_script.specs.declared.why.Why.{Why}
use Rattle.un_script.specs.Reading.{script_of}
use Rattle.un_setup.specs.declared.agreement.Agreed.{Agreed}
use Rattle.un_setup.specs.declared.agreement.SetupFault.{SetupFault}
use Rattle.un_setup.specs.Agreement.{agreed_of}
use Rattle.un_report.specs.Report.{report}
use Rattle.usbnet_run.specs.Refusals.{Answer, refusal_status}
use Rattle.usbnet_run.specs.declared.refusal.Refusal.{Refusal}
use Rattle.usbnet_run.specs.declared.refusal.Refusal.TheVariants.{BadScript, Setup}

-- WHAT IS PRINTED

-- the trace of a history, and its report
abbrev pub output : Script → Agreed → History → List ℕ
output script agreed history = trace history ++ report script agreed history

-- in each lane all that was accepted is given, and each sender's frames that are to be taken were accepted, in their order
pub record GivesAll (script : Script) (history : History) : Type 0 where
  pub all_given : (lane : Lane) → given (past lane history) ≡ row_from 0 (taken (past lane history))
  pub all_accepted : (lane : Lane) (sender : ℕ) → accepted script lane (past lane history) sender ≡ good_frames script.params lane (frames_of script lane sender)

-- What is printed belongs to what was read: the two ends agree, the history is one that the command ends with and that a journal keeps, and no step fits after it. Where no fault is planned, nothing is stopped, cut
-- or unplugged and the link ends awake, it loses nothing.
pub record IsRun (EndsWith : Script → History → Type 0) (given' : List ℕ) (script : Script) (agreed : Agreed) (history : History) : Type 0 where
  pub script_is : script_of given' ≡ Ok script
  pub agrees : Agree script.params
  pub agreed_is : agreed_of script.params ≡ Ok agreed
  pub ends_with : EndsWith script history
  pub is_done : IsDone script history
  pub entries : AreEntries history
  pub loses_nothing : LosesNothing script → GivesAll script history

-- the text of no script
abbrev pub IsNoScript : List ℕ → Type 0
IsNoScript given' = (line : ℕ) × (why : Why) × (script_of given' ≡ Err (line, why))

-- why a script's text isn't run: memory ran out; it is no script; or it is one whose parameters don't agree
pub data Refuses (given' : List ℕ) : Refusal → Type 0 where
  wants_memory : (refusal : Refusal) → refusal_status refusal ≡ 1 → Refuses given' refusal
  not_a_script : (line : ℕ) (why : Why) → script_of given' ≡ Err (line, why) → Refuses given' (BadScript line why)
  not_agreed : (script : Script) (fault : SetupFault) → script_of given' ≡ Ok script → agreed_of script.params ≡ Err fault → (Agree script.params → ⊥)
      → refusal_status (Setup fault) ≡ 6 → Refuses given' (Setup fault)

-- the answers to a script's text: the output of such a history, or a refusal
pub data Runs (EndsWith : Script → History → Type 0) (given' : List ℕ) : Answer → Type 0 where
  printed : (script : Script) (agreed : Agreed) (history : History) → IsRun EndsWith given' script agreed history
      → Runs EndsWith given' (Ok (output script agreed history))
  refuses : (refusal : Refusal) → Refuses given' refusal → Runs EndsWith given' (Err refusal)

-- the sink grew by the output of a run of the text
pub record HasPrinted (EndsWith : Script → History → Type 0) (text : List ℕ) (script : Script) (held held' : Option (List ℕ)) : Type 0 where
  pub agreed : Agreed
  pub history : History
  pub is_run : IsRun EndsWith text script agreed history
  pub all : Appends held held' (output script agreed history)
