-- Completeness and exactness of the whole program's answers.
use Rattle.std.proofs.Common.{ℕ, ◌≡◌, List, Option, inl, inr, ◌⊎◌, refl, arith}
use Rattle.usbnet_run.specs.Command.{RefusesExactly, ends}
use Rattle.usbnet_run.specs.Kept.{IsKept}
use Rattle.usbnet_run.specs.Loads.{Loads, loaded, wants_memory}
use Rattle.usbnet_run.specs.Refusals.{Answer, Prints, done, refused, stopped}
use Rattle.usbnet_run.specs.Top.{MainRefusalsAreExact, RunIsComplete, answers_load, answers_plain, answers_run, main_ends}
use Rattle.usbnet_run.specs.Words.{job_of}
use Rattle.usbnet_run.specs.declared.words.Job.{Job}
use Rattle.usbnet_run.specs.declared.words.Job.TheVariants.{Run, Load, Plain}
use Rattle.usbnet_run.proofs.Completeness.{exact, run_complete, run_exact}

run_or_plain : (job : Job) → job ≡ Run → job ≡ Plain → ⊥
run_or_plain job a b = cc

run_or_load : (job : Job) (count : ℕ) → job ≡ Run → job ≡ Load count → ⊥
run_or_load job count a b = cc

load_or_plain : (job : Job) (count : ℕ) → job ≡ Load count → job ≡ Plain → ⊥
load_or_plain job count a b = cc

pub complete : RunIsComplete
complete words text given left held held' faults faults' script status (main_ends answer (answers_run _ w input) t) c asked few is agree a b =
    run_complete IsKept text given left held held' faults faults' script answer status input t c few is agree a b
complete words text given left held held' faults faults' script _ (main_ends answer (answers_plain _ w plain) t) c asked few is agree a b = absurd (run_or_plain (job_of words) asked w)
complete words text given left held held' faults faults' script _ (main_ends answer (answers_load count _ w none load) t) c asked few is agree a b = absurd (run_or_load (job_of words) count asked w)

load_status : (count : ℕ) (held held' : Option (List ℕ)) (faults faults' : ℕ) (answer : Answer) (status : ℕ) → Loads count answer → Prints held held' faults faults' answer status
    → (status ≡ 0) ⊎ ((status ≡ 1) ⊎ (status ≡ 3))
load_status count held held' faults faults' _ _ (loaded history is) (done _ t) = inl refl
load_status count held held' faults faults' _ _ (loaded history is) (stopped _ t cause) = inr (inr refl)
load_status count held held' faults faults' _ _ wants_memory (refused _ t) = inr (inl refl)

-- a load's status isn't a bad word's
no_four : (status : ℕ) → (status ≡ 0) ⊎ ((status ≡ 1) ⊎ (status ≡ 3)) → status ≡ 4 → ⊥
no_four status (inl e) f = omega (arith, e, f)
no_four status (inr (inl e)) f = omega (arith, e, f)
no_four status (inr (inr e)) f = omega (arith, e, f)

pub main_exact : MainRefusalsAreExact
main_exact words given left held held' faults faults' status (main_ends answer (answers_plain _ w answers) t) =
    let plain : RefusesExactly words given status = exact words given left held held' faults faults' status (ends answer answers t) in
    record {
      of_plain = λ p. plain;
      of_words = (λ f. (w, plain.of_words.0 f), λ p. plain.of_words.1 p.1);
      of_script = λ r. absurd (run_or_plain (job_of words) r w);
      of_setup = λ r. absurd (run_or_plain (job_of words) r w);
      of_size = λ r. absurd (run_or_plain (job_of words) r w);
      of_load = λ count l. absurd (load_or_plain (job_of words) count l w);
    }
main_exact words given left held held' faults faults' status (main_ends answer (answers_run _ w input) t) =
    let e = run_exact IsKept given left held held' faults faults' answer status input t in
    record {
      of_plain = λ p. absurd (run_or_plain (job_of words) w p);
      of_words = (λ f. absurd (e.not_words f), λ p. absurd (run_or_plain (job_of words) w p.0));
      of_script = λ r. e.of_script;
      of_setup = λ r. e.of_setup;
      of_size = λ r. e.of_size;
      of_load = λ count l. absurd (run_or_load (job_of words) count w l);
    }
main_exact words given left held held' faults faults' status (main_ends answer (answers_load count _ w none load) t) =
    let ways = load_status count held held' faults faults' answer status load t in
    record {
      of_plain = λ p. absurd (load_or_plain (job_of words) count w p);
      of_words = (λ f. absurd (no_four status ways f), λ p. absurd (load_or_plain (job_of words) count w p.0));
      of_script = λ r. absurd (run_or_load (job_of words) count r w);
      of_setup = λ r. absurd (run_or_load (job_of words) count r w);
      of_size = λ r. absurd (run_or_load (job_of words) count r w);
      of_load = λ other l. ways;
    }
