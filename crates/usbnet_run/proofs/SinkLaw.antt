-- What a sink holds at each status, by the ways to end.
use Rattle.std.proofs.Common.{ℕ, List, Option, refl, arith}
use Rattle.usbnet_run.specs.Command.{Answers, ends}
use Rattle.usbnet_run.specs.Refusals.{Answer, Prints, done, refused, stopped}
use Rattle.usbnet_run.specs.Sinks.{HoldsAt, MainSinkHolds, SinkHolds}
use Rattle.usbnet_run.specs.Top.{MainAnswers, main_ends}
use Rattle.usbnet_run.proofs.Endings.{statuses}

holds_at : (IsAnswer : Answer → Type 0) (held held' : Option (List ℕ)) (faults faults' : ℕ) (answer : Answer) (status : ℕ) → IsAnswer answer → Prints held held' faults faults' answer status
    → HoldsAt IsAnswer held held' faults faults' status
holds_at IsAnswer held held' faults faults' _ _ is (done text t) = record { all = λ e. (text, is, t); front = λ e. absurd (omega (arith, e)); line = λ a b. absurd (a refl) }
holds_at IsAnswer held held' faults faults' _ _ is (stopped text t rose) = record { all = λ e. absurd (omega (arith, e)); front = λ e. (text, is, t); line = λ a b. absurd (b refl) }
holds_at IsAnswer held held' faults faults' _ _ is (refused refusal t) =
    let not = statuses refusal in record { all = λ e. absurd (not.0 e); front = λ e. absurd (not.1 e); line = λ a b. (refusal, refl, is, t) }

pub holds : SinkHolds
holds words given left held held' faults faults' status (ends answer is t) = holds_at (Answers words given left) held held' faults faults' answer status is t

pub main_holds : MainSinkHolds
main_holds words given left held held' faults faults' status (main_ends answer is t) = holds_at (MainAnswers words given left) held held' faults faults' answer status is t
