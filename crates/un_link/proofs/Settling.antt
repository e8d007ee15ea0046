-- A link after the end of a stop.
use Rattle.std.proofs.Common.{◌≡◌, ℕ, ◌+◌, ◌<◌, ◌≤◌, ◌&&◌, ◌==◌, [], ◌∷◌, ◌++◌, reverse, Option, Some, None, refl, sym, ap, ◌∙◌, subst, arith}
use Rattle.un_frame.specs.declared.params.Lane.{Lane}
use Rattle.un_frame.specs.declared.params.Lane.TheVariants.{Outward, Inward}
use Rattle.un_frame.specs.declared.params.Params.{Params}
use Rattle.un_frame.specs.declared.kinds.Phase.{Phase}
use Rattle.un_frame.specs.declared.kinds.Phase.TheVariants.{Up, Asleep, Stopping, Leaving, Down, Away}
use Rattle.un_endpoint.specs.declared.record.FlightRecord.{FlightRecord}
use Rattle.un_journal.specs.declared.lines.Line.TheVariants.{Settled}
use Rattle.un_journal.specs.declared.actions.Answer.{Answer}
use Rattle.un_journal.specs.Script.{Script}
use Rattle.un_journal.specs.History.{History, past}
use Rattle.un_journal.specs.Log.{Log}
use Rattle.un_journal.specs.Lookup.{phase_after, after_settled, controls_done, is_asleep, built_frames, tx_home, rx_home}
use Rattle.un_journal.specs.LaneSteps.{Writes, lines_in, answer_in, bare}
use Rattle.un_journal.specs.Step.{Work, settle, settled_line, all_home}
use Rattle.un_journal.specs.Fits.{Works}
use Rattle.un_journal.proofs.ForLink.{newest, past_onto}
use Rattle.un_lane.specs.Way.{Way, HasRoom, Adds}
use Rattle.un_lane.specs.Phases.{Agrees}
use Rattle.un_lane.specs.Controls.{settled}
use Rattle.un_lane.specs.Stands.{Stands}
use Rattle.un_script.specs.Cursors.{AreRead}
use Rattle.un_link.specs.Keeps.{Keeps}
use Rattle.un_link.specs.Link.{Link, Holds, Steps, lane_flights}
use Rattle.un_link.proofs.Holding.{act_room, act_logged}
use Rattle.un_link.proofs.Offers.{pushed}

-- A PATH AFTER THE SETTLED LINE

settled_stands : (way : Way) (g : History) (a b c d : ℕ) → Stands way g → Stands (settled way) (bare (Settled a b c d) ∷ g)
settled_stands way g a b c d w = record {
  sound = (tt, w.sound);
  placed = record {
    side = w.placed.side;
    one_params = w.placed.one_params;
    no_deferred = w.placed.no_deferred;
    tx_size_is = w.placed.tx_size_is;
    rx_size_is = w.placed.rx_size_is;
    tx_room_is = w.placed.tx_room_is;
    rx_room_is = w.placed.rx_room_is;
    largest_is = w.placed.largest_is;
    wide = w.placed.wide;
    tx_once = w.placed.tx_once;
    rx_once = w.placed.rx_once;
    tx_some = w.placed.tx_some;
    rx_some = w.placed.rx_some;
    tx_all = w.placed.tx_all;
    rx_all = w.placed.rx_all;
    deferred_are = w.placed.deferred_are;
    queued_are = w.placed.queued_are;
    posted_are = w.placed.posted_are;
    flight_is = w.placed.flight_is;
  };
  building = w.building;
  queues = record {
    wait = w.queues.wait;
    fly = w.queues.fly;
    marked = w.queues.marked;
    unmarked = w.queues.unmarked;
    unmade = w.queues.unmade;
    flight_marked = w.queues.flight_marked;
    halts = refl;
    posted = w.queues.posted;
    grounded = w.queues.grounded;
  };
  tries = record { tried = w.tries.tried; deferred_untried = w.tries.deferred_untried; unmade_untried = w.tries.unmade_untried };
  ends = w.ends;
  counts = w.counts;
  texts = w.texts;
}

same_sleep : (phase : Phase) → is_asleep phase ≡ is_asleep (after_settled phase)
same_sleep Up = refl
same_sleep Asleep = refl
same_sleep Stopping = refl
same_sleep Leaving = refl
same_sleep Down = refl
same_sleep Away = refl

settled_keeps : (script : Script) (phase : Phase) (old new : Way) (g : History) (a b c d : ℕ) → Keeps script phase old g → new ≡ settled old → ((h : History) → Stands (settled old) h → Stands new h) → Keeps script (after_settled phase) new (bare (Settled a b c d) ∷ g)
settled_keeps script phase old new g a b c d k now s = record {
  params_are = ap (λ (w : Way). w.tx.params) now ∙ k.params_are;
  stands = s (bare (Settled a b c d) ∷ g) (settled_stands old g a b c d k.stands);
  agrees = subst (Agrees (is_asleep (after_settled phase))) (sym now) (subst (λ i. Agrees i old) (same_sleep phase) k.agrees);
  frames_are = subst (λ (w : Way). w.tx.builder.frames ≡ built_frames script w.lane (bare (Settled a b c d) ∷ g)) (sym now) k.frames_are;
}

same_flights : (lane : Lane) (g : History) (a b c d : ℕ) (f f' : Option FlightRecord) → f' ≡ f → lane_flights lane (bare (Settled a b c d) ∷ g) f' ≡ lane_flights lane g f
same_flights lane g a b c d f f' e = ap (lane_flights lane (bare (Settled a b c d) ∷ g)) e ∙ go f
  where
    go : (o : Option FlightRecord) → lane_flights lane (bare (Settled a b c d) ∷ g) o ≡ lane_flights lane g o
    go None = refl
    go (Some r) = refl

-- THE REQUESTS AT HOME

-- what a path says of its lane's requests
pub homes_are : (script : Script) (phase : Phase) (lane : Lane) (way : Way) (g : History) (tx rx : ℕ) → way.lane ≡ lane → Keeps script phase way g
    → ((h : History) → Stands way h → (tx ≡ tx_home way.tx.params way.lane h) × (rx ≡ rx_home way.tx.params way.lane h)) → (tx ≡ tx_home script.params lane g) × (rx ≡ rx_home script.params lane g)
homes_are script phase lane way g tx rx e k f =
    subst (λ l. (tx ≡ tx_home script.params l g) × (rx ≡ rx_home script.params l g)) e
    (subst (λ (p : Params). (tx ≡ tx_home p way.lane g) × (rx ≡ rx_home p way.lane g)) k.params_are (f g k.stands))

-- the four numbers of a link
pub record AreHomes (script : Script) (h : History) (a b c d : ℕ) : Type 0 where
  pub tx_out : a ≡ tx_home script.params Outward (past Outward h)
  pub rx_out : b ≡ rx_home script.params Outward (past Outward h)
  pub tx_in : c ≡ tx_home script.params Inward (past Inward h)
  pub rx_in : d ≡ rx_home script.params Inward (past Inward h)

pub four_homes : (link : Link) (a b c d : ℕ) → Holds link
    → ((h : History) → Stands link.out h → (a ≡ tx_home link.out.tx.params link.out.lane h) × (b ≡ rx_home link.out.tx.params link.out.lane h))
    → ((h : History) → Stands link.inward h → (c ≡ tx_home link.inward.tx.params link.inward.lane h) × (d ≡ rx_home link.inward.tx.params link.inward.lane h))
    → AreHomes link.script link.log.history a b c d
four_homes link a b c d k fo fi =
    let o = homes_are link.script link.phase Outward link.out (past Outward link.log.history) a b k.out_lane k.out_keeps fo in
    let i = homes_are link.script link.phase Inward link.inward (past Inward link.log.history) c d k.in_lane k.in_keeps fi in
    record { tx_out = o.0; rx_out = o.1; tx_in = i.0; rx_in = i.1 }

pub all_home_is : (script : Script) (h : History) (a b c d : ℕ) → AreHomes script h a b c d
    → (a == script.params.tx_out && b == script.params.rx_out && c == script.params.tx_in && d == script.params.rx_in) ≡ all_home script h
all_home_is script h a b c d w = rw (w.tx_out, w.rx_out, w.tx_in, w.rx_in) refl

line_is : (script : Script) (h : History) (a b c d : ℕ) → AreHomes script h a b c d → Settled a b c d ≡ settled_line script h
line_is script h a b c d w = rw (w.tx_out, w.rx_out, w.tx_in, w.rx_in) refl

-- THE LINK

module _ (link : Link) (k : Holds link) (fits : settle link.script link.log.history ≡ Writes (bare (settled_line link.script link.log.history) ∷ [])) where
  pub settle_room : 0 < link.log.spare_lines
  settle_room =
      let r : HasRoom link.log (bare (settled_line link.script link.log.history) ∷ []) = subst (HasRoom link.log) (ap lines_in fits) (act_room link.script link.log (Works Work.Settle) k.logged) in
      let l : 1 ≤ link.log.spare_lines = r.lines_fit in omega arith

  module _ (a b c d : ℕ) (homes : AreHomes link.script link.log.history a b c d) (log1 : Log) (history_is : log1.history ≡ link.log.history ++ bare (Settled a b c d) ∷ [])
      (lines_left : log1.spare_lines + 1 ≡ link.log.spare_lines) (bytes_left : log1.spare_bytes + 0 ≡ link.log.spare_bytes)
      (out' inward' : Way) (out_now : out' ≡ settled link.out) (in_now : inward' ≡ settled link.inward)
      (out_stands : (h : History) → Stands (settled link.out) h → Stands out' h) (in_stands : (h : History) → Stands (settled link.inward) h → Stands inward' h) where
    own_lines : lines_in (settle link.script link.log.history) ≡ bare (Settled a b c d) ∷ []
    own_lines = ap lines_in fits ∙ ap (λ l. bare l ∷ []) (sym (line_is link.script link.log.history a b c d homes))

    new_past : (lane : Lane) → past lane log1.history ≡ bare (Settled a b c d) ∷ past lane link.log.history
    new_past lane = ap (past lane) history_is ∙ past_onto lane link.log.history (bare (Settled a b c d) ∷ [])

    pub settle_holds : Holds (record link { log = log1; out = out'; inward = inward'; phase = after_settled link.phase })
    settle_holds = record {
      logged = act_logged link.script link.log log1 (Works Work.Settle) k.logged (subst (Adds link.log log1) (sym own_lines) (pushed link.log log1 (Settled a b c d) history_is lines_left bytes_left));
      out_lane = ap (λ (w : Way). w.lane) out_now ∙ k.out_lane;
      in_lane = ap (λ (w : Way). w.lane) in_now ∙ k.in_lane;
      out_keeps = subst (Keeps link.script (after_settled link.phase) out') (sym (new_past Outward)) (settled_keeps link.script link.phase link.out out' (past Outward link.log.history) a b c d k.out_keeps out_now out_stands);
      in_keeps = subst (Keeps link.script (after_settled link.phase) inward') (sym (new_past Inward)) (settled_keeps link.script link.phase link.inward inward' (past Inward link.log.history) a b c d k.in_keeps in_now in_stands);
      out_read_is = subst (AreRead link.out_read) (sym (new_past Outward)) (record { first = k.out_read_is.first; second = k.out_read_is.second; third = k.out_read_is.third; fourth = k.out_read_is.fourth });
      in_read_is = subst (AreRead link.in_read) (sym (new_past Inward)) (record { first = k.in_read_is.first; second = k.in_read_is.second; third = k.in_read_is.third; fourth = k.in_read_is.fourth });
      phase_is = sym (ap (λ h. phase_after link.script.controls (reverse h)) history_is ∙ (ap (phase_after link.script.controls) (newest link.log.history (bare (Settled a b c d))) ∙ ap after_settled (sym k.phase_is)));
      next_control_is = sym (ap (λ h. controls_done (reverse h)) history_is ∙ (ap controls_done (newest link.log.history (bare (Settled a b c d))) ∙ sym k.next_control_is));
    }

    pub settle_steps : Steps link (record link { log = log1; out = out'; inward = inward'; phase = after_settled link.phase }) (settle link.script link.log.history) Answer.Did
    settle_steps = record {
      script_is = refl;
      history_is = history_is ∙ ap (λ ls. link.log.history ++ ls) (sym own_lines);
      answers = sym (ap answer_in fits);
      flights_are =
          ap (λ g. lane_flights Outward g out'.bus.flight ++ lane_flights Inward (past Inward log1.history) inward'.bus.flight) (new_past Outward)
          ∙ (ap (λ g. lane_flights Outward (bare (Settled a b c d) ∷ past Outward link.log.history) out'.bus.flight ++ lane_flights Inward g inward'.bus.flight) (new_past Inward)
          ∙ (ap (λ fs. fs ++ lane_flights Inward (bare (Settled a b c d) ∷ past Inward link.log.history) inward'.bus.flight) (same_flights Outward (past Outward link.log.history) a b c d link.out.bus.flight out'.bus.flight (ap (λ (w : Way). w.bus.flight) out_now))
          ∙ ap (λ fs. lane_flights Outward (past Outward link.log.history) link.out.bus.flight ++ fs) (same_flights Inward (past Inward link.log.history) a b c d link.inward.bus.flight inward'.bus.flight (ap (λ (w : Way). w.bus.flight) in_now))));
      unchanged = tt;
    }
