-- A link after the work of one of its halves.
use Rattle.std.proofs.Common.{◌≡◌, ◌+◌, ◌<◌, ◌≤◌, ◌^◌, false, ◌++◌, length, reverse, Some, refl, sym, ap, ◌∙◌, subst, arith, length-append}
use Rattle.std.proofs.lemmas.Option.{none-some}
use Rattle.un_frame.specs.declared.params.Lane.{Lane}
use Rattle.un_frame.specs.declared.params.Lane.TheVariants.{Outward, Inward}
use Rattle.un_frame.specs.Lanes.{same_lane}
use Rattle.un_journal.specs.declared.actions.Action.{Action}
use Rattle.un_journal.specs.declared.actions.Answer.{Answer}
use Rattle.un_journal.specs.declared.got.Got.{Got}
use Rattle.un_journal.specs.Script.{Script}
use Rattle.un_journal.specs.History.{History, past}
use Rattle.un_journal.specs.Log.{Log}
use Rattle.un_journal.specs.Bytes.{bytes_in, byte_bound}
use Rattle.un_journal.specs.Lookup.{phase_of, controls_done}
use Rattle.un_journal.specs.LaneSteps.{lines_in}
use Rattle.un_journal.specs.Step.{Work, work}
use Rattle.un_journal.specs.Drain.{line_bound}
use Rattle.un_journal.specs.Fits.{Act, Works, Legal, act_outcome}
use Rattle.un_journal.specs.Sound.{IsSound}
use Rattle.un_journal.proofs.Theorems.{legal_act}
use Rattle.un_journal.proofs.ForLink.{onto, lane_of, work_own, past_own, past_other, phase_kept, controls_kept, act_has_room, act_has_byte_room, bytes_append}
use Rattle.un_lane.specs.Way.{HasRoom, Adds}
use Rattle.un_lane.specs.Stands.{Stands}
use Rattle.un_lane.specs.Answered.{UnlessTaken}
use Rattle.un_link.specs.declared.half.Half.{Half}
use Rattle.un_link.specs.declared.shared.Shared.{Shared}
use Rattle.un_script.specs.Cursors.{AreRead}
use Rattle.un_link.specs.Keeps.{Keeps}
use Rattle.un_link.specs.Halves.{HalfKeeps, Ready, Goes, Does, acts_on, work_of}
use Rattle.un_link.specs.Flights.{LaneTrip}
use Rattle.un_link.specs.Link.{Link, IsLogged, Holds, Steps, lane_flights}
use Rattle.un_link.proofs.Flying.{flight_kept}
use Rattle.un_link.proofs.Unchanged.{unless, taken}

-- ROOM

-- the lines of every act have room
pub act_room : (script : Script) (log : Log) (act : Act) → IsLogged script log → HasRoom log (lines_in (act_outcome script log.history act))
act_room script log act w =
    let l : length log.history + length (lines_in (act_outcome script log.history act)) ≤ line_bound script = act_has_room script log.history act w.legal in
    let b : bytes_in log.history + bytes_in (lines_in (act_outcome script log.history act)) ≤ byte_bound script = act_has_byte_room script log.history act w.in_range w.agree w.legal in
    let sl : log.spare_lines + length log.history ≡ line_bound script = w.lines_left in
    let sb : log.spare_bytes + bytes_in log.history ≡ byte_bound script = w.bytes_left in
    let few : line_bound script < 2 ^ 63 = w.few in
    record { lines_fit = omega arith; bytes_fit = omega arith; counts_fit = omega arith }

-- and after them there is room for what may yet come
pub act_logged : (script : Script) (log log' : Log) (act : Act) → IsLogged script log → Adds log log' (lines_in (act_outcome script log.history act)) → IsLogged script log'
act_logged script log log' act w a =
    let lines : History = lines_in (act_outcome script log.history act) in
    let l : log'.spare_lines + length lines ≡ log.spare_lines = a.lines_left in
    let b : log'.spare_bytes + bytes_in lines ≡ log.spare_bytes = a.bytes_left in
    let hl : length log'.history ≡ length log.history + length lines = ap length a.history_is ∙ length-append log.history lines in
    let hb : bytes_in log'.history ≡ bytes_in log.history + bytes_in lines = ap bytes_in a.history_is ∙ bytes_append log.history lines in
    let sl : log.spare_lines + length log.history ≡ line_bound script = w.lines_left in
    let sb : log.spare_bytes + bytes_in log.history ≡ byte_bound script = w.bytes_left in
    record {
      legal = subst (Legal script) (sym a.history_is) (legal_act script log.history act w.legal);
      in_range = w.in_range;
      agree = w.agree;
      lines_left = omega arith;
      bytes_left = omega arith;
      few = w.few;
    }

-- THE LANES

-- what a lane's work leaves of the lane's and of the other lane's lines, of the phase and of the controls
pub record IsWorked (script : Script) (lane : Lane) (h h' lines : History) : Type 0 where
  pub own : past lane h' ≡ onto lines (past lane h)
  pub other : (l : Lane) → same_lane l lane ≡ false → past l h' ≡ past l h
  pub phase_is : phase_of script h' ≡ phase_of script h
  pub next_control_is : controls_done (reverse h') ≡ controls_done (reverse h)

pub is_worked : (script : Script) (lane : Lane) (w : Work) (h h' : History) → lane_of w ≡ Some lane → h' ≡ h ++ lines_in (work script h w) → IsWorked script lane h h' (lines_in (work script h w))
is_worked script lane w h h' of e =
    let o = work_own script h w lane of in
    record {
      own = ap (past lane) e ∙ past_own lane h (lines_in (work script h w)) o.own;
      other = λ l apart. ap (past l) e ∙ past_other lane l h (lines_in (work script h w)) o.own apart;
      phase_is = ap (phase_of script) e ∙ phase_kept script h (lines_in (work script h w)) o.still;
      next_control_is = ap (λ i. controls_done (reverse i)) e ∙ controls_kept h (lines_in (work script h w)) o.still;
    }

-- A LINK'S HALVES

abbrev pub shared_of : Link → Shared
shared_of link = record { script = link.script; journal = link.log; phase = link.phase; next_control = link.next_control }

abbrev pub half_of : {T R : Type 0} → Lane → Link → Half T R
half_of Outward link = record { path = link.out; read = link.out_read }
half_of Inward link = record { path = link.inward; read = link.in_read }

-- the link with what is shared and one half as they are afterwards
abbrev pub with_half : {T R : Type 0} → Lane → Link → Shared → Half T R → Link
with_half Outward link s half = record { script = s.script; log = s.journal; out = half.path; inward = link.inward; out_read = half.read; in_read = link.in_read; phase = s.phase; next_control = s.next_control }
with_half Inward link s half = record { script = s.script; log = s.journal; out = link.out; inward = half.path; out_read = link.out_read; in_read = half.read; phase = s.phase; next_control = s.next_control }

pub half_kept : {T R : Type 0} (lane : Lane) (link : Link) → Holds link → HalfKeeps {T = T} {R = R} (shared_of link) (half_of lane link)
half_kept Outward link k = record {
  in_range = k.logged.in_range;
  keeps = subst (λ l. Keeps link.script link.phase link.out (past l link.log.history)) (sym k.out_lane) k.out_keeps;
  read_is = subst (λ l. AreRead link.out_read (past l link.log.history)) (sym k.out_lane) k.out_read_is;
  phase_is = k.phase_is;
  next_control_is = k.next_control_is;
}
half_kept Inward link k = record {
  in_range = k.logged.in_range;
  keeps = subst (λ l. Keeps link.script link.phase link.inward (past l link.log.history)) (sym k.in_lane) k.in_keeps;
  read_is = subst (λ l. AreRead link.in_read (past l link.log.history)) (sym k.in_lane) k.in_read_is;
  phase_is = k.phase_is;
  next_control_is = k.next_control_is;
}

pub half_ready : {T R : Type 0} (lane : Lane) (link : Link) (w : Work) → Holds link → Ready {T = T} {R = R} w (shared_of link) (half_of lane link)
half_ready lane link w k = record { kept = half_kept lane link k; room = act_room link.script link.log (Works w) k.logged }

-- the invariant after a half's work
pub half_holds : {T R : Type 0} (lane : Lane) (link : Link) (w : Work) (shared' : Shared) (half' : Half T R) → Holds link → lane_of w ≡ Some lane → Goes w (shared_of link) shared' (half_of lane link) half'
    → Holds (with_half lane link shared' half')
half_holds Outward link w shared' half' k of d =
    let x = is_worked link.script Outward w link.log.history shared'.journal.history of d.adds.history_is in
    let at : half'.path.lane ≡ Outward = d.lane_is ∙ k.out_lane in
    subst (λ (s : Shared). Holds (with_half Outward link s half')) (sym d.shares) (record {
      logged = act_logged link.script link.log shared'.journal (Works w) k.logged d.adds;
      out_lane = at;
      in_lane = k.in_lane;
      out_keeps = subst (λ l. Keeps link.script link.phase half'.path (past l shared'.journal.history)) at d.keeps;
      in_keeps = subst (Keeps link.script link.phase link.inward) (sym (x.other Inward refl)) k.in_keeps;
      out_read_is = subst (λ l. AreRead half'.read (past l shared'.journal.history)) k.out_lane d.read_is;
      in_read_is = subst (AreRead link.in_read) (sym (x.other Inward refl)) k.in_read_is;
      phase_is = k.phase_is ∙ sym x.phase_is;
      next_control_is = k.next_control_is ∙ sym x.next_control_is;
    })
half_holds Inward link w shared' half' k of d =
    let x = is_worked link.script Inward w link.log.history shared'.journal.history of d.adds.history_is in
    let at : half'.path.lane ≡ Inward = d.lane_is ∙ k.in_lane in
    subst (λ (s : Shared). Holds (with_half Inward link s half')) (sym d.shares) (record {
      logged = act_logged link.script link.log shared'.journal (Works w) k.logged d.adds;
      out_lane = k.out_lane;
      in_lane = at;
      out_keeps = subst (Keeps link.script link.phase link.out) (sym (x.other Outward refl)) k.out_keeps;
      in_keeps = subst (λ l. Keeps link.script link.phase half'.path (past l shared'.journal.history)) at d.keeps;
      out_read_is = subst (AreRead link.out_read) (sym (x.other Outward refl)) k.out_read_is;
      in_read_is = subst (λ l. AreRead half'.read (past l shared'.journal.history)) k.in_lane d.read_is;
      phase_is = k.phase_is ∙ sym x.phase_is;
      next_control_is = k.next_control_is ∙ sym x.next_control_is;
    })

-- WHAT A CALL SAYS

same_half : {T R : Type 0} (lane : Lane) (link : Link) (shared' : Shared) (half' : Half T R) → (half' ≡ half_of lane link) × (shared' ≡ shared_of link) → with_half lane link shared' half' ≡ link
same_half Outward link shared' half' same = ap (λ h. with_half Outward link shared' h) same.0 ∙ ap (λ (s : Shared). record { script = s.script; log = s.journal; out = link.out; inward = link.inward; out_read = link.out_read; in_read = link.in_read; phase = s.phase; next_control = s.next_control }) same.1
same_half Inward link shared' half' same = ap (λ h. with_half Inward link shared' h) same.0 ∙ ap (λ (s : Shared). record { script = s.script; log = s.journal; out = link.out; inward = link.inward; out_read = link.out_read; in_read = link.in_read; phase = s.phase; next_control = s.next_control }) same.1

-- a take that is refused
pub half_refused : {T R : Type 0} (lane : Lane) (link : Link) (shared' : Shared) (half' : Half T R) (got : Got LaneTrip) → UnlessTaken got ((half' ≡ half_of lane link) × (shared' ≡ shared_of link)) → UnlessTaken got (with_half lane link shared' half' ≡ link)
half_refused lane link shared' half' got u = taken got _ _ (same_half lane link shared' half') u

-- the lane's flights, where the endpoint's flight stays
pub own_flights : {T R : Type 0} (lane : Lane) (w : Work) (shared shared' : Shared) (half half' : Half T R) → half.path.lane ≡ lane → lane_of w ≡ Some lane → Stands half.path (past lane shared.journal.history)
    → Goes w shared shared' half half' → half'.path.bus.flight ≡ half.path.bus.flight
    → lane_flights lane (past lane shared'.journal.history) half'.path.bus.flight ≡ lane_flights lane (past lane shared.journal.history) half.path.bus.flight
own_flights lane w shared shared' half half' at of s d f =
    let x = is_worked shared.script lane w shared.journal.history shared'.journal.history of d.adds.history_is in
    let sound : IsSound (past lane shared'.journal.history) = subst (λ l. IsSound (past l shared'.journal.history)) (d.lane_is ∙ at) d.keeps.stands.sound in
    ap (λ g. lane_flights lane g half'.path.bus.flight) x.own
    ∙ flight_kept lane half.path (lines_in (work shared.script shared.journal.history w)) (past lane shared.journal.history) half'.path.bus.flight s f (subst IsSound x.own sound)

pub half_steps : {T R : Type 0} (lane : Lane) (link : Link) (w : Work) (shared' : Shared) (half' : Half T R) (answer : Answer) → Holds link → lane_of w ≡ Some lane
    → Does w (shared_of link) shared' (half_of lane link) half' answer → Steps link (with_half lane link shared' half') (work link.script link.log.history w) answer
half_steps Outward link w shared' half' answer k of d =
    let x = is_worked link.script Outward w link.log.history shared'.journal.history of d.goes.adds.history_is in
    record {
      script_is = ap (λ (s : Shared). s.script) d.goes.shares;
      history_is = d.goes.adds.history_is;
      answers = d.answers;
      flights_are =
          ap (λ g. lane_flights Outward (past Outward shared'.journal.history) half'.path.bus.flight ++ lane_flights Inward g link.inward.bus.flight) (x.other Inward refl)
          ∙ ap (λ fs. fs ++ lane_flights Inward (past Inward link.log.history) link.inward.bus.flight) (own_flights Outward w (shared_of link) shared' (half_of Outward link) half' k.out_lane of k.out_keeps.stands d.goes d.flight_is);
      unchanged = unless answer _ _ (same_half Outward link shared' half') d.unchanged;
    }
half_steps Inward link w shared' half' answer k of d =
    let x = is_worked link.script Inward w link.log.history shared'.journal.history of d.goes.adds.history_is in
    record {
      script_is = ap (λ (s : Shared). s.script) d.goes.shares;
      history_is = d.goes.adds.history_is;
      answers = d.answers;
      flights_are =
          ap (λ g. lane_flights Outward g link.out.bus.flight ++ lane_flights Inward (past Inward shared'.journal.history) half'.path.bus.flight) (x.other Outward refl)
          ∙ ap (λ fs. lane_flights Outward (past Outward link.log.history) link.out.bus.flight ++ fs) (own_flights Inward w (shared_of link) shared' (half_of Inward link) half' k.in_lane of k.in_keeps.stands d.goes d.flight_is);
      unchanged = unless answer _ _ (same_half Inward link shared' half') d.unchanged;
    }

-- the work of an action is its lane's
pub acts_lane : (lane l : Lane) (action : Action) → acts_on action ≡ Some l → lane_of (work_of lane action) ≡ Some lane
acts_lane lane l (Action.Offer m sender) e = refl
acts_lane lane l (Action.Tick m) e = refl
acts_lane lane l (Action.TxDone m) e = refl
acts_lane lane l (Action.RxDone m) e = refl
acts_lane lane l (Action.Deliver m) e = refl
acts_lane lane l (Action.Refill m) e = refl
acts_lane lane l (Action.Unlink m) e = refl
acts_lane lane l (Action.ClearHalt m) e = refl
acts_lane lane l action e = absurd (none-some l e)
