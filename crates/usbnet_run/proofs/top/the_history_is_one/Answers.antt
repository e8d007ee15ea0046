use Rattle.std.proofs.Common.{◌≡◌, ℕ, List, ◌++◌, sym, ◌∙◌, append_assoc}
use Rattle.un_journal.specs.History.{History}
use Rattle.un_journal.specs.Log.{AreEntries}
use Rattle.un_journal.specs.Text.{trace}
use Rattle.un_journal.proofs.Theorems.{traces}
use Rattle.un_report.specs.Report.{report}
use Rattle.usbnet_run.specs.Top.{BeginsWithOutput, of_run, of_serial}
use Rattle.usbnet_run.proofs.top.the_history_is_one.Goals as goal

-- a text that begins with an output begins with its trace
traced : (text : List ℕ) (history : History) → BeginsWithOutput text history → (more : List ℕ) × AreEntries history × (text ≡ trace history ++ more)
traced text history (of_serial given more script agreed run e) =
    (report script agreed history ++ more, run.entries, e ∙ append_assoc (trace history) (report script agreed history) more)
traced text history (of_run given more script agreed run e) =
    (report script agreed history ++ more, run.entries, e ∙ append_assoc (trace history) (report script agreed history) more)

pub returns : goal.returns
returns c text g h a b =
    let x = traced text g a in
    let y = traced text h b in
    (traces g h x.0 y.0 x.1 y.1 (sym x.2 ∙ y.2)).0
