-- A new link.
use Rattle.std.proofs.Common.{◌≡◌, ℕ, [], refl, sym, ap, ◌∙◌, arith}
use Rattle.std.proofs.lemmas.Bool.{false≢true}
use Rattle.un_lane.proofs.LinkSteps.{defers_awake}
use Rattle.un_frame.specs.declared.params.Lane.{Lane}
use Rattle.un_frame.specs.declared.params.Lane.TheVariants.{Outward, Inward}
use Rattle.un_frame.specs.declared.kinds.Phase.TheVariants.{Up}
use Rattle.un_frame.specs.Params.{Agree}
use Rattle.un_endpoint.specs.Ends.{Transmitter, Receiver}
use Rattle.un_journal.specs.Script.{Script}
use Rattle.un_journal.specs.Bytes.{byte_bound}
use Rattle.un_journal.specs.Drain.{line_bound}
use Rattle.un_journal.specs.Fits.{begins}
use Rattle.un_lane.specs.Way.{Way}
use Rattle.un_lane.specs.Stands.{Stands}
use Rattle.un_lane.specs.Fresh.{AreFresh}
use Rattle.un_script.specs.Ready.{IsReady}
use Rattle.un_script.specs.declared.cursors.Cursors.{Cursors}
use Rattle.un_script.specs.Cursors.{nothing_read}
use Rattle.un_link.specs.declared.shared.Shared.{Shared}
use Rattle.un_link.specs.Keeps.{Keeps}
use Rattle.un_link.specs.Link.{Holds}
use Rattle.un_link.proofs.Rooms.{few_lines}

-- a fresh path keeps what an empty history says
made_keeps : (script : Script) (way : Way) (lane : Lane) (t : Transmitter) (r : Receiver) (n m : ℕ) → AreFresh lane t r n m → way.tx ≡ t → t.params ≡ script.params → Stands way [] → Keeps script Up way []
made_keeps script way lane t r n m f e p s = record {
  params_are = ap (λ x. x.params) e ∙ p;
  stands = s;
  agrees = record {
    none_queued = λ d. absurd (false≢true (sym (defers_awake way.lane) ∙ d));
    none_deferred = λ d. ap (λ x. x.deferred) e ∙ ap (λ x. x.deferred) f.tx_is;
  };
  frames_are = ap (λ x. x.builder.frames) e ∙ ap (λ x. x.builder.frames) f.tx_is;
}

-- a link over two fresh paths, with an empty history and room for all of its lines
pub made_holds : (script : Script) (out inward : Way) (shared : Shared) (read read' : Cursors) (a c : Transmitter) (b d : Receiver) (n m i j : ℕ)
    → IsReady script → Agree script.params
    → AreFresh Outward a b n m → AreFresh Inward c d i j → a.params ≡ script.params → c.params ≡ script.params
    → Stands out [] → out.lane ≡ Outward → out.tx ≡ a → Stands inward [] → inward.lane ≡ Inward → inward.tx ≡ c
    → shared ≡ record { script = script; journal = record { history = []; spare_lines = line_bound script; spare_bytes = byte_bound script }; phase = Up; next_control = 0 }
    → read ≡ nothing_read → read' ≡ nothing_read
    → Holds (record { script = shared.script; log = shared.journal; out = out; inward = inward; out_read = read; in_read = read'; phase = shared.phase; next_control = shared.next_control })
made_holds script out inward shared read read' a c b d n m i j ready agree fo fi po pi so lo to si li ti e ro ri =
    rw (e, ro, ri)
    (record {
      logged = record { legal = begins; in_range = ready.in_range; agree = agree; lines_left = omega arith; bytes_left = omega arith; few = few_lines script ready };
      out_lane = lo;
      in_lane = li;
      out_keeps = made_keeps script out Outward a b n m fo to po so;
      in_keeps = made_keeps script inward Inward c d i j fi ti pi si;
      out_read_is = record { first = refl; second = refl; third = refl; fourth = refl };
      in_read_is = record { first = refl; second = refl; third = refl; fourth = refl };
      phase_is = refl;
      next_control_is = refl;
    })
