-- What the eleven workers leave, and the line of a load.
use Rattle.std.proofs.Common.{ℕ, ◌+◌, arith, List, [], ◌∷◌, ◌++◌, ◌≡◌, codes, decimal, Option, Some, Result, Ok, Err, IfOk, sym, ap, subst, ◌∙◌}
use Rattle.un_journal.specs.Script.{Script}
use Rattle.un_journal.specs.History.{History}
use Rattle.un_journal.specs.Drain.{drain}
use Rattle.un_journal.specs.Fits.{IsDone}
use Rattle.un_journal.proofs.Theorems.{drain_done}
use Rattle.un_link.specs.Link.{Holds, Link, flights_of}
use Rattle.un_link.proofs.Draining.{none_flies as link_flies}
use Rattle.un_report.specs.declared.tally.Tally.{Tally}
use Rattle.un_script.specs.Load.{load_script}
use Rattle.usbnet_run.specs.Kept.{IsKept}
use Rattle.usbnet_run.specs.Loads.{IsLoad, IsWholeLoad, load_line}
use Rattle.usbnet_run.proofs.LoadLaw.{load_whole}

-- the counts that a load's line is made of
pub whole_found : (count : ℕ) (outward inward out-found in-found : Tally) → out-found ≡ outward → in-found ≡ inward → IsWholeLoad count outward inward → IsWholeLoad count out-found in-found
whole_found count outward inward out-found in-found a b w =
    let P : Tally → Type 0 = λ t. IsWholeLoad count t inward in
    let Q : Tally → Type 0 = λ t. IsWholeLoad count out-found t in
    subst Q (sym b) (subst P (sym a) w)

pub sums_of_one : (n sum count : ℕ) → n ≡ sum → sum ≡ count → n ≡ count
sums_of_one n sum count a b = a ∙ b

pub sums_of_none : (count : ℕ) (a b : Tally) (n : ℕ) → IsWholeLoad count a b → n ≡ a.failed + a.cut + a.dropped + (b.failed + b.cut + b.dropped) → n ≡ 0
sums_of_none count a b n w e =
    let failed = w.none_failed in let cut = w.none_cut in let dropped = w.none_dropped in omega (arith, e, failed, cut, dropped)

-- the line of a load
pub sums_text : (a b c d e f g h line : List ℕ) (taken given lost count : ℕ) → a ≡ [] → b ≡ a ++ codes "taken" → c ≡ b ++ 32 ∷ decimal taken → d ≡ c ++ codes " given" → e ≡ d ++ 32 ∷ decimal given
    → f ≡ e ++ codes " lost" → g ≡ f ++ 32 ∷ decimal lost → h ≡ g ++ codes "\n" → line ≡ h → taken ≡ count → given ≡ count → lost ≡ 0 → line ≡ load_line count
sums_text a b c d e f g h line taken given lost count ha hb hc hd he hf hg hh hl nt ng nl =
    hl ∙ hh ∙ ap (λ t. t ++ codes "\n") (hg ∙ ap (λ n. f ++ 32 ∷ decimal n) nl ∙ ap (λ t. t ++ 32 ∷ decimal 0) (hf ∙ ap (λ t. t ++ codes " lost") (he ∙ ap (λ n. d ++ 32 ∷ decimal n) ng
    ∙ ap (λ t. t ++ 32 ∷ decimal count) (hd ∙ ap (λ t. t ++ codes " given") (hc ∙ ap (λ n. b ++ 32 ∷ decimal n) nt ∙ ap (λ t. t ++ 32 ∷ decimal count) (hb ∙ ap (λ t. t ++ codes "taken") ha))))))

-- WHAT THE WORKERS LEAVE

one_plan : (a b : Script) → Some a ≡ Some b → a ≡ b
one_plan a b e = cc

-- the script of the link that the turn gives back
pub same_plan : (a b : Script) (seat given : Option Script) → seat ≡ Some a → given ≡ Some b → seat ≡ given → a ≡ b
same_plan a b seat given p q e = one_plan a b (sym p ∙ e ∙ q)

-- a closed turn's link, drained
pub kept_link : (script : Script) (closed done : Link) → closed.script ≡ script → Holds closed → flights_of closed ≡ [] → done.log.history ≡ drain closed.script closed.log.history → IsKept script done.log.history
kept_link script closed done same holds out drained =
    let P : Script → Type 0 = λ s. IsKept s done.log.history in
    subst P same (record { kept = closed.log.history; is_legal = holds.logged.legal; none_flies = link_flies closed holds out; is_drained = drained })

pub kept_is_done : (script : Script) (history : History) → IsKept script history → IsDone script history
kept_is_done script history k = subst (IsDone script) (sym k.is_drained) (drain_done script k.kept k.is_legal k.none_flies)

pub load_of : (script : Script) (count : ℕ) (history : History) → script ≡ load_script count → IsKept script history → IsLoad count history
load_of script count history same k =
    let kept : IsKept (load_script count) history = subst (λ s. IsKept s history) same k in
    let done : IsDone (load_script count) history = kept_is_done (load_script count) history kept in
    record { is_kept = kept; is_done = done; is_whole = load_whole count history done }

pub load_if : {E : Type 0} (result : Result Link E) (script : Script) (count : ℕ) → script ≡ load_script count → IfOk result (λ done. IsKept script done.log.history) → IfOk result (λ link. IsLoad count link.log.history)
load_if (Ok done) script count same k = load_of script count done.log.history same k
load_if (Err e) script count same k = tt
