-- What a drained link's history is.
use Rattle.std.proofs.Common.{◌≡◌, ℕ, false, List, [], Option, Result, Ok, refl, sym, subst}
use Rattle.un_frame.specs.declared.params.Lane.{Lane}
use Rattle.un_frame.specs.Params.{AreInRange, Agree}
use Rattle.un_io.specs.declared.whole.WriteFault.{WriteFault}
use Rattle.un_journal.specs.Script.{Script}
use Rattle.un_journal.specs.History.{History}
use Rattle.un_journal.specs.Drain.{drain}
use Rattle.un_journal.specs.Done.{NoneFlies}
use Rattle.un_journal.specs.Fits.{IsDone, Legal}
use Rattle.un_journal.specs.Log.{AreEntries}
use Rattle.un_journal.specs.Loss.{LosesNothing}
use Rattle.un_journal.proofs.Theorems.{drain_done, nothing_lost, have_pools}
use Rattle.un_script.specs.Reading.{script_of}
use Rattle.un_setup.specs.declared.agreement.Agreed.{Agreed}
use Rattle.un_setup.specs.declared.agreement.SetupFault.{SetupFault}
use Rattle.un_setup.specs.declared.agreement.SetupFault.TheVariants.{BadDivisor, BadAlignment, NoFit, NoMemory as NoRoom}
use Rattle.un_setup.specs.Agreement.{agreed_of, Fails, Refuses as Denies}
use Rattle.usbnet_run.specs.Prepared.{IsPrepared}
use Rattle.usbnet_run.specs.Refusals.{Does, Writes}
use Rattle.usbnet_run.specs.Runs.{GivesAll, IsRun, Refuses, Runs, not_agreed, output, wants_memory}
use Rattle.usbnet_run.specs.declared.refusal.Refusal.TheVariants.{Setup}
use Rattle.un_link.specs.Link.{Link, flights_of}
use Rattle.un_link.proofs.Agreeing.{agreed_is}

-- nothing flies before the first line
none_flies : NoneFlies []
none_flies lane k = by_lane lane where
  by_lane : (lane : Lane) → Rattle.un_journal.specs.History.flies (Rattle.un_journal.specs.History.past lane []) k ≡ false
  by_lane lane = refl

gives_all : (script : Script) (history : History) → AreInRange script.params → IsDone script history → LosesNothing script → GivesAll script history
gives_all script history ranges done w = record {
  all_given = λ lane. (nothing_lost script history (have_pools script.params ranges) w done lane).all_given;
  all_accepted = λ lane sender. (nothing_lost script history (have_pools script.params ranges) w done lane).all_accepted sender;
}

-- a done history that a command ends with belongs to a prepared link's script
pub run_of : (EndsWith : Script → History → Type 0) (text : List ℕ) (link : Link) (agreed : Agreed) (history : History) → IsPrepared text link agreed
    → EndsWith link.script history → IsDone link.script history → AreEntries history → IsRun EndsWith text link.script agreed history
run_of EndsWith text link agreed history p ends done entries = record {
  script_is = p.script_is;
  agrees = p.agrees;
  agreed_is = p.agreed_is;
  ends_with = ends;
  is_done = done;
  entries = entries;
  loses_nothing = gives_all link.script history p.in_range done;
}

-- what was printed of it, through what is lent
pub printed_so : (EndsWith : Script → History → Type 0) (text : List ℕ) (link : Link) (agreed : Agreed) (history : History) (lent-script : Script) (lent : History) (h i : Option (List ℕ)) (a b : ℕ)
    (written : Result (Unit {0}) WriteFault) → IsPrepared text link agreed → EndsWith link.script history → IsDone link.script history → lent-script ≡ link.script → lent ≡ history → AreEntries lent
    → Writes h i a b (output lent-script agreed lent) written → Does (Runs EndsWith text) h i a b (Ok written)
printed_so EndsWith text link agreed history lent-script lent h i a b written p ends done e f entries t =
    let P : Script → Type 0 = λ s. Writes h i a b (output s agreed lent) written in
    let Q : History → Type 0 = λ x. Writes h i a b (output link.script agreed x) written in (
      output link.script agreed history,
      Runs.printed link.script agreed history (run_of EndsWith text link agreed history p ends done (subst AreEntries f entries)),
      subst Q f (subst P e t),
    )

pub drained_is_done : (script : Script) (history : History) → history ≡ drain script [] → IsDone script history
drained_is_done script history e = subst (IsDone script) (sym e) (drain_done script [] Legal.begins none_flies)

-- a new link of a text's script, on whose parameters its ends agree
pub prepared_of : (text : List ℕ) (script : Script) (link : Link) (agreed : Agreed) → script_of text ≡ Ok script → AreInRange script.params → Agree script.params → agreed_of script.params ≡ Ok agreed
    → link.script ≡ script → link.log.history ≡ [] → flights_of link ≡ [] → IsPrepared text link agreed
prepared_of text script link agreed is range agrees a same new none =
    let P : Script → Type 0 = λ s. (script_of text ≡ Ok s) × AreInRange s.params × Agree s.params × (agreed_of s.params ≡ Ok agreed) × (agreed.params ≡ s.params) in
    let p = subst P (sym same) (is, range, agrees, a, (agreed_is script.params agreed a).params_are) in
    record { script_is = p.0; in_range = p.1; agrees = p.2; agreed_is = p.3; same_params = p.4; fresh = new; none_out = none }

-- a fault that `agree` answers is a refusal of the text
pub refuses_of : (text : List ℕ) (script : Script) (fault : SetupFault) → script_of text ≡ Ok script → Fails fault (agreed_of script.params) → Denies fault script.params → Refuses text (Setup fault)
refuses_of text script (BadDivisor d r) is f n = not_agreed script (BadDivisor d r) is f n refl
refuses_of text script (BadAlignment a) is f n = not_agreed script (BadAlignment a) is f n refl
refuses_of text script (NoFit s b) is f n = not_agreed script (NoFit s b) is f n refl
refuses_of text script NoRoom is f n = wants_memory (Setup NoRoom) refl
