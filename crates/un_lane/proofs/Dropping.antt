-- A path that has dropped what it built stands for the lane with one line more.
use Rattle.std.proofs.Common.{◌≡◌, ℕ, suc, ◌+◌, ◌-◌, ◌<◌, Bool, true, false, ◌&&◌, ◌==◌, if◌then◌else◌, nat_lt, List, [], ◌∷◌, ◌++◌, length, option_to_list, refl, sym, ap, ◌∙◌, subst, arith, length-append}
use Rattle.std.proofs.lemmas.Bool.Decides.{nat_tests}
use Rattle.un_facts.proofs.Copies.{copies_append}
use Rattle.un_facts.specs.Lists.{copies}
use Rattle.un_frame.specs.declared.params.Lane.{Lane}
use Rattle.un_frame.specs.declared.params.Lane.TheVariants.{Outward, Inward}
use Rattle.un_endpoint.specs.Bus.{Bus}
use Rattle.un_endpoint.specs.Ends.{Builder, Transmitter, Receiver}
use Rattle.un_endpoint.specs.EndOutcomes.{Drops, without_build}
use Rattle.un_frame.specs.Lanes.{packs}
use Rattle.un_journal.specs.declared.lines.Line.TheVariants.{Dropped}
use Rattle.un_journal.specs.declared.lines.Line.{Line}
use Rattle.un_journal.specs.History.{History, taken, cover, took_last}
use Rattle.un_journal.specs.LaneSteps.{bare}
use Rattle.un_journal.specs.Step.{dropped_built}
use Rattle.un_lane.specs.Controls.{LeavesBus}
use Rattle.un_lane.specs.Way.{Way}
use Rattle.un_lane.specs.Stands.{Stands, ArePlaced, claims_when, pends_when}
use Rattle.un_lane.proofs.Placing.{tx_moved}

dropped_placed : (lane : Lane) (t : Transmitter) (r : Receiver) (bus : Bus) → ArePlaced lane t r bus → ArePlaced lane (without_build t) r bus
dropped_placed lane t r bus p = assumption (
  p,
  tx_moved p (without_build t) bus refl
      (λ n. let h : copies n (t.home ++ option_to_list t.builder.claim) ≡ copies n t.home + copies n (option_to_list t.builder.claim) = copies_append n t.home (option_to_list t.builder.claim) in omega arith)
      (let h : length (t.home ++ option_to_list t.builder.claim) ≡ length t.home + length (option_to_list t.builder.claim) = length-append t.home (option_to_list t.builder.claim) in omega arith),
)

none_left : (n m : ℕ) → n ≡ m → nat_lt 0 (n - m) ≡ false
none_left n m e = grind (arith, nat_tests)

no_claim : (lane : Lane) (a b last : Bool) → b ≡ false → claims_when lane (a && b && last) ≡ false
no_claim Outward true b last e = rw e refl
no_claim Outward false b last e = refl
no_claim Inward a b last e = refl

no_pend : (lane : Lane) (a b last : Bool) (n : ℕ) → b ≡ false → pends_when lane (a && b && last) n ≡ 0
no_pend Outward true b last n e = rw e refl
no_pend Outward false b last n e = refl
no_pend Inward a b last n e = refl

pub drop_stands : (way : Way) (g : History) (t : Transmitter) (from to' c : ℕ) → Stands way g → Drops way.tx t from to'
    → Stands (record way { tx = t }) ((Dropped way.lane from to' c, []) ∷ g)
drop_stands way g t from to' c w d =
    let begins : way.tx.builder.from ≡ cover g = w.building.from_is d.some in
    let covered : cover g + length way.tx.builder.frames ≡ taken g = w.building.covered in
    let first : from ≡ way.tx.builder.from = d.from_is in
    let last : to' ≡ way.tx.builder.from + length way.tx.builder.frames = d.to_is in
    let some : 0 < length way.tx.builder.frames = d.some in
    let none : nat_lt 0 (taken g - to') ≡ false = none_left (taken g) to' (omega arith) in
    let stands : Stands (record way { tx = without_build way.tx }) ((Dropped way.lane from to' c, []) ∷ g) = record {
      sound = (record { begins = first ∙ begins; is_some = omega arith; is_taken = omega arith }, w.sound);
      placed = dropped_placed way.lane way.tx way.rx way.bus w.placed;
      building = record {
        accepted_is = w.building.accepted_is;
        made_is = w.building.made_is;
        covered = omega arith;
        from_is = λ h. absurd (omega arith);
        claimed = sym (no_claim way.lane (packs way.tx.params.class way.lane) (nat_lt 0 (taken g - to')) (took_last g) none);
        pends = sym (no_pend way.lane (packs way.tx.params.class way.lane) (nat_lt 0 (taken g - to')) (took_last g) _ none);
        blocks = λ h. absurd (omega arith);
        remainder = λ o n. omega arith;
      };
      queues = w.queues;
      tries = assumption w.tries;
      ends = w.ends;
      counts = record {
        tx = let h : length (way.tx.home ++ option_to_list way.tx.builder.claim) ≡ length way.tx.home + length (option_to_list way.tx.builder.claim) = length-append way.tx.home (option_to_list way.tx.builder.claim) in
            let s = w.counts.tx in omega (arith, s);
        rx = w.counts.rx;
      };
      texts = w.texts;
    } in
    subst (λ x. Stands (record way { tx = x }) ((Dropped way.lane from to' c, []) ∷ g)) (sym d.rest) stands

-- WHAT IS DROPPED

-- the dropped line by what is built
abbrev pub dropped_of : Lane → ℕ → Builder → History
dropped_of lane c b = if length b.frames == 0 then [] else (bare (Line.Dropped lane b.from (b.from + length b.frames) c) ∷ [])

pub dropped_is : (way : Way) (g : History) (c : ℕ) → Stands way g → dropped_built way.lane c g ≡ dropped_of way.lane c way.tx.builder
dropped_is way g c w = go way.tx.builder.frames refl
  where
    covered : cover g + length way.tx.builder.frames ≡ taken g
    covered = w.building.covered

    same : taken g - cover g ≡ length way.tx.builder.frames
    same = let e : cover g + length way.tx.builder.frames ≡ taken g = covered in omega arith

    go : (xs : List (List ℕ)) → way.tx.builder.frames ≡ xs → dropped_built way.lane c g ≡ dropped_of way.lane c way.tx.builder
    go [] e =
        let none : length way.tx.builder.frames ≡ 0 = ap length e in
        rw (same, none) refl
    go (x ∷ xs) e =
        let some : length way.tx.builder.frames ≡ suc (length xs) = ap length e in
        let begins : way.tx.builder.from ≡ cover g = w.building.from_is (omega arith) in
        let last : taken g ≡ way.tx.builder.from + length way.tx.builder.frames = let k : cover g + length way.tx.builder.frames ≡ taken g = covered in omega arith in
        ap (λ n. if n == 0 then [] else (bare (Line.Dropped way.lane (cover g) (taken g) c) ∷ [])) same
        ∙ (ap (λ i. if length way.tx.builder.frames == 0 then [] else (bare (Line.Dropped way.lane i (taken g) c) ∷ [])) (sym begins)
        ∙ ap (λ i. if length way.tx.builder.frames == 0 then [] else (bare (Line.Dropped way.lane way.tx.builder.from i c) ∷ [])) last)

pub dropped_same : (old new : Way) (g g' : History) (c : ℕ) → Stands old g → Stands new g' → LeavesBus old new → dropped_built new.lane c g' ≡ dropped_built old.lane c g
dropped_same old new g g' c w w' l =
    dropped_is new g' c w' ∙ (ap (λ i. dropped_of i c new.tx.builder) l.lane_is ∙ (ap (dropped_of old.lane c) l.builder_is ∙ sym (dropped_is old g c w)))
