-- The commands do their work wherever they can: each refusal contradicts what was read. And each refusal comes where it is due.
use Rattle.std.proofs.Common.{ℕ, ◌<◌, ◌≤◌, ◌≡◌, ◌↔◌, ◌⊎◌, List, ◌++◌, length, Option, Some, None, Result, Ok, Err, inl, inr, refl, sym, ap, subst, ◌∙◌, arith, length-append, append-nil}
use Rattle.std.specs.Io.KnownBytes.{Appends, Consumes, IsAtEnd}
use Rattle.un_frame.specs.declared.params.Class.{Class}
use Rattle.un_frame.specs.Params.{Agree}
use Rattle.un_frame.specs.Wire.{Reads}
use Rattle.un_journal.specs.Script.{Script}
use Rattle.un_journal.specs.History.{History}
use Rattle.un_script.specs.declared.why.Why.{Why}
use Rattle.un_script.specs.Reading.{script_of}
use Rattle.un_setup.specs.declared.agreement.Agreed.{Agreed}
use Rattle.un_wire.proofs.CursorLemmas.{readings_are_one}
use Rattle.usbnet_run.specs.Command.{ComesExactly, DecodeIsComplete, IsComplete, IsDrained, IsUnagreed, RefusalsAreExact, TooLargeExactly, answers_decode, answers_serial, bad_words, ends}
use Rattle.usbnet_run.specs.Decode.{Decodes, IsOutside, bad_transfer, decoded, decoded_text}
use Rattle.usbnet_run.specs.Reading.{IsReadToEnd, MOST_INPUT, OfInput, StopsReading, no_memory, read_fault, reads, stops, too_large}
use Rattle.usbnet_run.specs.Refusals.{Answer, Prints, done, refusal_status, refused, stopped}
use Rattle.usbnet_run.specs.Runs.{HasPrinted, IsNoScript, IsRun, Runs, not_a_script, not_agreed, printed, refuses, wants_memory}
use Rattle.usbnet_run.specs.Words.{command_of}
use Rattle.usbnet_run.specs.declared.refusal.Refusal.{Refusal}
use Rattle.usbnet_run.specs.declared.words.Command.{Command}
use Rattle.usbnet_run.specs.declared.words.Command.TheVariants.{Serial, Decode}

-- a source that is at its end gave all that it had
pub gave_all : (text given : List ℕ) (left : Option (List ℕ)) → Consumes (Some text) left given → IsAtEnd left → text ≡ given
gave_all text given None c e = absurd c
gave_all text given (Some rest) c e = c ∙ ap (λ t. given ++ t) e ∙ append-nil given

pub gave_some : (text given : List ℕ) (left : Option (List ℕ)) → Consumes (Some text) left given → length given ≤ length text
gave_some text given None c = absurd c
gave_some text given (Some rest) c = let size = length-append given rest in let same = ap length c in omega (arith, size, same)

pub no_script : (script : Script) (bad : ℕ × Why) (read : Result Script (ℕ × Why)) → read ≡ Ok script → read ≡ Err bad → ⊥
no_script script bad read a b = cc

pub one_script : (script other : Script) (read : Result Script (ℕ × Why)) → read ≡ Ok script → read ≡ Ok other → script ≡ other
one_script script other read a b = cc

-- words ask for one thing
is_none : (asked : Option Command) (command : Command) → asked ≡ Some command → asked ≡ None → ⊥
is_none asked command a b = cc

two_ways : (asked : Option Command) (class : Class) → asked ≡ Some Serial → asked ≡ Some (Decode class) → ⊥
two_ways asked class a b = cc

one_class : (asked : Option Command) (class other : Class) → asked ≡ Some (Decode class) → asked ≡ Some (Decode other) → class ≡ other
one_class asked class other a b = cc

-- COMPLETENESS

-- what was read of the whole text is the script
pub script_read : (text given : List ℕ) (left : Option (List ℕ)) (script : Script) → Consumes (Some text) left given → IsAtEnd left → script_of text ≡ Ok script → script_of given ≡ Ok script
script_read text given left script c whole is = ap script_of (sym (gave_all text given left c whole)) ∙ is

-- a run of a script that can be done, by serial or by run
pub run_complete : (EndsWith : Script → History → Type 0) (text given : List ℕ) (left held held' : Option (List ℕ)) (faults faults' : ℕ) (script : Script) (answer : Answer) (status : ℕ)
    → OfInput (Runs EndsWith) given left answer → Prints held held' faults faults' answer status → Consumes (Some text) left given
    → length text ≤ MOST_INPUT → script_of text ≡ Ok script → Agree script.params → (status ≡ 2 → ⊥) → (status ≡ 3 → ⊥)
    → ((status ≡ 0) × (given ≡ text) × HasPrinted EndsWith text script held held') ⊎ (status ≡ 1)
run_complete EndsWith text given left held held' faults faults' script _ _ (reads _ whole (printed other agreed history run)) (done _ t) c few is agree a b =
    let all : text ≡ given = gave_all text given left c whole.0 in
    let same : other ≡ script = one_script other script (script_of given) run.script_is (script_read text given left script c whole.0 is) in
    let P : List ℕ → Type 0 = λ x. HasPrinted EndsWith x other held held' in
    let Q : Script → Type 0 = λ s. HasPrinted EndsWith text s held held' in
    inl (refl, sym all, subst Q same (subst P (sym all) (record { agreed = agreed; history = history; is_run = run; all = t })))
run_complete EndsWith text given left held held' faults faults' script _ _ (reads _ whole (printed other agreed history run)) (stopped _ t cause) c few is agree a b = absurd (b refl)
run_complete EndsWith text given left held held' faults faults' script _ _ (reads _ whole (refuses _ (wants_memory _ one))) (refused _ t) c few is agree a b = inr one
run_complete EndsWith text given left held held' faults faults' script _ _ (reads _ whole (refuses _ (not_a_script line why r))) (refused _ t) c few is agree a b =
    absurd (no_script script (line, why) (script_of given) (script_read text given left script c whole.0 is) r)
run_complete EndsWith text given left held held' faults faults' script _ _ (reads _ whole (refuses _ (not_agreed other fault r none not six))) (refused _ t) c few is agree a b =
    let same : script ≡ other = one_script script other (script_of given) (script_read text given left script c whole.0 is) r in
    absurd (not (subst (λ (x : Script). Agree x.params) same agree))
run_complete EndsWith text given left held held' faults faults' script _ _ (stops _ no_memory) (refused _ t) c few is agree a b = inr refl
run_complete EndsWith text given left held held' faults faults' script _ _ (stops _ (read_fault size)) (refused _ t) c few is agree a b = absurd (a refl)
run_complete EndsWith text given left held held' faults faults' script _ _ (stops _ (too_large size)) (refused _ t) c few is agree a b =
    let some = gave_some text given left c in absurd (omega (arith, some, size, few))

pub complete : IsComplete
complete words text given left held held' faults faults' script status (ends answer (answers_serial _ w input) t) c serial few is agree a b =
    run_complete IsDrained text given left held held' faults faults' script answer status input t c few is agree a b
complete words text given left held held' faults faults' script _ (ends _ (answers_decode class _ w input) t) c serial few is agree a b = absurd (two_ways (command_of words) class serial w)
complete words text given left held held' faults faults' script _ (ends _ (bad_words w g) t) c serial few is agree a b = absurd (is_none (command_of words) Serial serial w)

-- what the bytes are read as, by the words' class and the source's whole text
reads_as : (asked : Option Command) (class other : Class) (text given : List ℕ) (frames : List (List ℕ)) (commands : ℕ) → asked ≡ Some (Decode class) → asked ≡ Some (Decode other)
    → text ≡ given → Reads class text frames commands → Reads other given frames commands
reads_as asked class other text given frames commands a b same r =
    let P : Class → Type 0 = λ k. Reads k given frames commands in
    let Q : List ℕ → Type 0 = λ t. Reads class t frames commands in
    subst P (one_class asked class other a b) (subst Q same r)

text_of : (class other : Class) (frames others : List (List ℕ)) (commands more : ℕ) → class ≡ other → frames ≡ others → commands ≡ more → decoded_text other others more ≡ decoded_text class frames commands
text_of class other frames others commands more a b c = sym (ap (λ k. decoded_text k frames commands) a ∙ ap (λ fs. decoded_text other fs commands) b ∙ ap (λ n. decoded_text other others n) c)

pub decode_complete : DecodeIsComplete
decode_complete words text given left held held' faults faults' class frames commands _ (ends _ (answers_decode other _ w (reads _ whole (decoded others more r))) (done _ t)) c decode few is a b =
    let same = gave_all text given left c whole.0 in
    let one = readings_are_one other given frames others commands more (reads_as (command_of words) class other text given frames commands decode w same is) r in
    let P : List ℕ → Type 0 = λ x. Appends held held' x in
    inl (refl, sym same, subst P (text_of class other frames others commands more (one_class (command_of words) class other decode w) one.0 one.1) t)
decode_complete words text given left held held' faults faults' class frames commands _ (ends _ (answers_decode other _ w (reads _ whole (decoded others more r))) (stopped _ t cause)) c decode few is a b = absurd (b refl)
decode_complete words text given left held held' faults faults' class frames commands _ (ends _ (answers_decode other _ w (reads _ whole (bad_transfer fault out f))) (refused _ t)) c decode few is a b =
    absurd (out frames commands (reads_as (command_of words) class other text given frames commands decode w (gave_all text given left c whole.0) is))
decode_complete words text given left held held' faults faults' class frames commands _ (ends _ (answers_decode other _ w (stops _ no_memory)) (refused _ t)) c decode few is a b = inr refl
decode_complete words text given left held held' faults faults' class frames commands _ (ends _ (answers_decode other _ w (stops _ (read_fault size))) (refused _ t)) c decode few is a b = absurd (a refl)
decode_complete words text given left held held' faults faults' class frames commands _ (ends _ (answers_decode other _ w (stops _ (too_large size))) (refused _ t)) c decode few is a b =
    let some = gave_some text given left c in absurd (omega (arith, some, size, few))
decode_complete words text given left held held' faults faults' class frames commands _ (ends _ (answers_serial _ w input) t) c decode few is a b = absurd (two_ways (command_of words) class w decode)
decode_complete words text given left held held' faults faults' class frames commands _ (ends _ (bad_words w g) t) c decode few is a b = absurd (is_none (command_of words) (Decode class) decode w)

-- EACH REFUSAL WHERE IT IS DUE

good_words : (words : List (List ℕ)) (command : Command) (status : ℕ) → command_of words ≡ Some command → (status ≡ 4 → ⊥) → (status ≡ 4) ↔ (command_of words ≡ None)
good_words words command status w other = (λ e. absurd (other e), λ f. absurd (is_none (command_of words) command w f))

pub is_script : (given : List ℕ) (script : Script) → script_of given ≡ Ok script → IsNoScript given → ⊥
is_script given script is bad = no_script script (bad.0, bad.1) (script_of given) is bad.2

-- a script that was run has parameters that agree
pub is_agreed : {EndsWith : Script → History → Type 0} {agreed : Agreed} {history : History} (given : List ℕ) (script : Script) → IsRun EndsWith given script agreed history → IsUnagreed given → ⊥
is_agreed given script run bad =
    let same : script ≡ bad.0 = one_script script bad.0 (script_of given) run.script_is bad.1 in
    bad.2 (subst (λ (x : Script). Agree x.params) same run.agrees)

-- a refusal that isn't due, and has another status
never : (given : List ℕ) (status mine : ℕ) (IsDue : Type 0) → (status ≡ mine → ⊥) → (IsDue → ⊥) → ComesExactly given status mine IsDue
never given status mine IsDue other not = record { only = λ e. absurd (other e); always = λ few due c. absurd (not due) }

-- want of memory in its place
wanted : (given : List ℕ) (status mine : ℕ) (IsDue : Type 0) → status ≡ 1 → 1 < mine → ComesExactly given status mine IsDue
wanted given status mine IsDue one more = record { only = λ e. absurd (omega (arith, one, more, e)); always = λ few due c. inr one }

-- the same, said otherwise
comes_as : (given : List ℕ) (status mine : ℕ) (IsDue IsOther : Type 0) → (IsDue → IsOther) → (IsOther → IsDue) → ComesExactly given status mine IsDue → ComesExactly given status mine IsOther
comes_as given status mine IsDue IsOther f g e = record { only = λ s. f (e.only s); always = λ few due c. e.always few (g due) c }

-- the input was read whole, and so isn't too large
fits : (given : List ℕ) (left : Option (List ℕ)) (status : ℕ) → IsReadToEnd given left → (status ≡ 7 → ⊥) → TooLargeExactly given status
fits given left status whole other = record { only = λ e. absurd (other e); always = λ big. let few = whole.1 in absurd (omega (arith, few, big)) }

-- what is due of a command over its input
pub record InputExactly (given : List ℕ) (status : ℕ) (IsScript IsSetup IsTransfer : Type 0) : Type 0 where
  pub not_words : status ≡ 4 → ⊥
  pub of_script : ComesExactly given status 5 IsScript
  pub of_setup : ComesExactly given status 6 IsSetup
  pub of_transfer : ComesExactly given status 8 IsTransfer
  pub of_size : TooLargeExactly given status

module _ (given : List ℕ) (left : Option (List ℕ)) (IsScript IsSetup IsTransfer : Type 0) where
  -- where reading stops, nothing is known of the input but its size
  unread : (refusal : Refusal) (mine : ℕ) (IsDue : Type 0) → StopsReading given refusal → 2 < mine → (mine ≡ 7 → ⊥) → ComesExactly given (refusal_status refusal) mine IsDue
  unread _ mine IsDue no_memory more other = wanted given 1 mine IsDue refl (omega (arith, more))
  unread _ mine IsDue (read_fault size) more other = record { only = λ e. absurd (omega (arith, more, e)); always = λ few due c. absurd (c refl) }
  unread _ mine IsDue (too_large size) more other = record { only = λ e. absurd (other (sym e)); always = λ few due c. absurd (omega (arith, size, few)) }

  unread_size : (refusal : Refusal) → StopsReading given refusal → TooLargeExactly given (refusal_status refusal)
  unread_size _ no_memory = record { only = λ e. absurd (omega (arith, e)); always = λ big. inr refl }
  unread_size _ (read_fault size) = record { only = λ e. absurd (omega (arith, e)); always = λ big. absurd (omega (arith, size, big)) }
  unread_size _ (too_large size) = record { only = λ e. omega (arith, size); always = λ big. inl refl }

  unread_exact : (refusal : Refusal) → StopsReading given refusal → InputExactly given (refusal_status refusal) IsScript IsSetup IsTransfer
  unread_exact refusal s = record {
    not_words = (unread refusal 4 ⊥ s (omega arith) (λ e. omega (arith, e))).only;
    of_script = unread refusal 5 IsScript s (omega arith) (λ e. omega (arith, e));
    of_setup = unread refusal 6 IsSetup s (omega arith) (λ e. omega (arith, e));
    of_transfer = unread refusal 8 IsTransfer s (omega arith) (λ e. omega (arith, e));
    of_size = unread_size refusal s;
  }

  -- the output was written, or a write of it failed
  output_exact : (status : ℕ) → status ≤ 3 → IsReadToEnd given left → (IsScript → ⊥) → (IsSetup → ⊥) → (IsTransfer → ⊥) → InputExactly given status IsScript IsSetup IsTransfer
  output_exact status small whole a b d = record {
    not_words = λ e. omega (arith, small, e);
    of_script = never given status 5 IsScript (λ e. omega (arith, small, e)) a;
    of_setup = never given status 6 IsSetup (λ e. omega (arith, small, e)) b;
    of_transfer = never given status 8 IsTransfer (λ e. omega (arith, small, e)) d;
    of_size = fits given left status whole (λ e. omega (arith, small, e));
  }

pub run_exact : (EndsWith : Script → History → Type 0) (given : List ℕ) (left held held' : Option (List ℕ)) (faults faults' : ℕ) (answer : Answer) (status : ℕ)
    → OfInput (Runs EndsWith) given left answer → Prints held held' faults faults' answer status → InputExactly given status (IsNoScript given) (IsUnagreed given) ⊥
run_exact EndsWith given left held held' faults faults' _ _ (stops refusal s) (refused _ t) = unread_exact given left _ _ _ refusal s
run_exact EndsWith given left held held' faults faults' _ _ (reads _ whole (printed script agreed history run)) (done _ t) =
    output_exact given left _ _ _ 0 (omega arith) whole (is_script given script run.script_is) (is_agreed given script run) (λ none. none)
run_exact EndsWith given left held held' faults faults' _ _ (reads _ whole (printed script agreed history run)) (stopped _ t cause) =
    output_exact given left _ _ _ 3 (omega arith) whole (is_script given script run.script_is) (is_agreed given script run) (λ none. none)
run_exact EndsWith given left held held' faults faults' _ _ (reads _ whole (refuses refusal (wants_memory _ one))) (refused _ t) = record {
  not_words = λ e. omega (arith, one, e);
  of_script = wanted given (refusal_status refusal) 5 _ one (omega arith);
  of_setup = wanted given (refusal_status refusal) 6 _ one (omega arith);
  of_transfer = wanted given (refusal_status refusal) 8 _ one (omega arith);
  of_size = fits given left (refusal_status refusal) whole (λ e. omega (arith, one, e));
}
run_exact EndsWith given left held held' faults faults' _ _ (reads _ whole (refuses _ (not_a_script line why is))) (refused _ t) = record {
  not_words = λ e. omega (arith, e);
  of_script = record { only = λ e. (line, why, is); always = λ few due c. inl refl };
  of_setup = never given 5 6 _ (λ e. omega (arith, e)) (λ due. is_script given due.0 due.1 (line, why, is));
  of_transfer = never given 5 8 _ (λ e. omega (arith, e)) (λ none. none);
  of_size = fits given left 5 whole (λ e. omega (arith, e));
}
run_exact EndsWith given left held held' faults faults' _ _ (reads _ whole (refuses _ (not_agreed script fault is none not six))) (refused refusal t) = record {
  not_words = λ e. omega (arith, six, e);
  of_script = never given (refusal_status refusal) 5 _ (λ e. omega (arith, six, e)) (is_script given script is);
  of_setup = record { only = λ e. (script, is, not); always = λ few due c. inl six };
  of_transfer = never given (refusal_status refusal) 8 _ (λ e. omega (arith, six, e)) (λ none. none);
  of_size = fits given left (refusal_status refusal) whole (λ e. omega (arith, six, e));
}

decode_exact : (class : Class) (given : List ℕ) (left held held' : Option (List ℕ)) (faults faults' : ℕ) (answer : Answer) (status : ℕ)
    → OfInput (Decodes class) given left answer → Prints held held' faults faults' answer status → InputExactly given status ⊥ ⊥ (IsOutside class given)
decode_exact class given left held held' faults faults' _ _ (stops refusal s) (refused _ t) = unread_exact given left _ _ _ refusal s
decode_exact class given left held held' faults faults' _ _ (reads _ whole (decoded frames commands r)) (done _ t) =
    output_exact given left _ _ _ 0 (omega arith) whole (λ none. none) (λ none. none) (λ out. out frames commands r)
decode_exact class given left held held' faults faults' _ _ (reads _ whole (decoded frames commands r)) (stopped _ t cause) =
    output_exact given left _ _ _ 3 (omega arith) whole (λ none. none) (λ none. none) (λ out. out frames commands r)
decode_exact class given left held held' faults faults' _ _ (reads _ whole (bad_transfer fault out f)) (refused _ t) = record {
  not_words = λ e. omega (arith, e);
  of_script = never given 8 5 _ (λ e. omega (arith, e)) (λ none. none);
  of_setup = never given 8 6 _ (λ e. omega (arith, e)) (λ none. none);
  of_transfer = record { only = λ e. out; always = λ few due c. inl refl };
  of_size = fits given left 8 whole (λ e. omega (arith, e));
}

pub exact : RefusalsAreExact
exact words given left held held' faults faults' status (ends answer (answers_serial _ w input) t) =
    let e = run_exact IsDrained given left held held' faults faults' answer status input t in
    record {
      of_words = good_words words Serial status w e.not_words;
      of_script = comes_as given status 5 _ _ (λ due. (w, due)) (λ due. due.1) e.of_script;
      of_setup = comes_as given status 6 _ _ (λ due. (w, due)) (λ due. due.1) e.of_setup;
      of_transfer = comes_as given status 8 _ _ (λ none. absurd none) (λ due. two_ways (command_of words) due.0 w due.1) e.of_transfer;
      of_size = e.of_size;
    }
exact words given left held held' faults faults' status (ends answer (answers_decode class _ w input) t) =
    let e = decode_exact class given left held held' faults faults' answer status input t in
    record {
      of_words = good_words words (Decode class) status w e.not_words;
      of_script = comes_as given status 5 _ _ (λ none. absurd none) (λ due. two_ways (command_of words) class due.0 w) e.of_script;
      of_setup = comes_as given status 6 _ _ (λ none. absurd none) (λ due. two_ways (command_of words) class due.0 w) e.of_setup;
      of_transfer = comes_as given status 8 _ _ (λ out. (class, w, out)) (λ due. subst (λ k. IsOutside k given) (one_class (command_of words) due.0 class due.1 w) due.2) e.of_transfer;
      of_size = e.of_size;
    }
exact words given left held held' faults faults' _ (ends _ (bad_words w none) (refused _ t)) = record {
  of_words = (λ e. w, λ f. refl);
  of_script = never given 4 5 _ (λ e. omega (arith, e)) (λ due. is_none (command_of words) Serial due.0 w);
  of_setup = never given 4 6 _ (λ e. omega (arith, e)) (λ due. is_none (command_of words) Serial due.0 w);
  of_transfer = never given 4 8 _ (λ e. omega (arith, e)) (λ due. is_none (command_of words) (Decode due.0) due.1 w);
  of_size = record { only = λ e. absurd (omega (arith, e)); always = λ big. let nothing = ap length none in absurd (omega (arith, nothing, big)) };
}
