-- A path whose accepted frame, or whose tick, made a transfer stands for the lane with the lines of it.
use Rattle.std.proofs.Common.{◌≡◌, ℕ, ◌+◌, ◌-◌, ◌<◌, ◌≤◌, Bool, true, false, not, ◌&&◌, nat_lt, List, [], ◌∷◌, ◌++◌, length, drop, Some, None, is_some, ◌⊎◌, inl, inr, refl, sym, ap, ◌∙◌, subst, arith, length-drop, drop_of_length-le, if◌then◌else◌}
use Rattle.std.proofs.lemmas.Bool.{false≢true}
use Rattle.std.proofs.lemmas.Option.{same_Some}
use Rattle.std.proofs.lemmas.List.{length_push}
use Rattle.un_frame.specs.declared.params.Lane.{Lane}
use Rattle.un_frame.specs.declared.params.Lane.TheVariants.{Outward, Inward}
use Rattle.un_frame.specs.Lanes.{packs, frames_fit}
use Rattle.un_frame.specs.Cut.{closed_span, ends_at_limit}
use Rattle.un_req.specs.Request.{Buffer}
use Rattle.un_endpoint.specs.Bus.{Bus}
use Rattle.un_endpoint.specs.EndOutcomes.{Keeps, Makes, Closes, Waits, with_frame}
use Rattle.un_endpoint.specs.Ends.{Builder, Transmitter}
use Rattle.un_journal.specs.declared.lines.Line.TheVariants.{Took, Made, Waited}
use Rattle.un_journal.specs.History.{History, taken, made, cover}
use Rattle.un_lane.specs.Way.{Way}
use Rattle.un_lane.specs.Phases.{Agrees, AreApart, Builds, IsSent, defers}
use Rattle.un_lane.specs.Stands.{Stands, IsBuilt, claims_when, pends_when}
use Rattle.un_lane.proofs.Offering.{closing_is, made_once, made_count}
use Rattle.un_lane.proofs.Sending.{StandsBut, IsNew, queue_stands, defer_stands}

-- the span that a frame closes
pub record IsClosed (a n : ℕ) (builds : Bool) (s : ℕ × ℕ) : Type 0 where
  pub begins : s.0 ≡ a
  pub least : n ≤ s.1
  pub most : s.1 ≤ n + 1
  pub blocks : (s.1 ≡ n + 1) ⊎ (builds ≡ true)

closed_as : (x y z : Bool) (a n : ℕ) (s : ℕ × ℕ) → (x ≡ false → a ≡ n)
    → (if not x then Some (n, n + 1) else (if y then Some (a, n) else (if z then Some (a, n + 1) else None))) ≡ Some s → IsClosed a n x s
closed_as false y z a n s one e = subst (IsClosed a n false) (same_Some (n, n + 1) s e) (record { begins = sym (one refl); least = omega arith; most = omega arith; blocks = inl refl })
closed_as true true z a n s one e = subst (IsClosed a n true) (same_Some (a, n) s e) (record { begins = refl; least = omega arith; most = omega arith; blocks = inr refl })
closed_as true false true a n s one e = subst (IsClosed a n true) (same_Some (a, n + 1) s e) (record { begins = refl; least = omega arith; most = omega arith; blocks = inr refl })
closed_as true false false a n s one e = absurd (cc)

pub but : (way : Way) (g : History) → Stands way g → StandsBut way.lane way.tx way.rx way.bus g
but way g w = record { sound = w.sound; placed = w.placed; queues = w.queues; tries = w.tries; ends = w.ends; counts = w.counts; texts = w.texts }

pub but_took : (way : Way) (g : History) (sender : ℕ) → Stands way g → StandsBut way.lane way.tx way.rx way.bus ((Took way.lane sender, []) ∷ g)
but_took way g sender w = record { sound = (tt, w.sound); placed = w.placed; queues = w.queues; tries = w.tries; ends = w.ends; counts = w.counts; texts = w.texts }

-- the span of a made transfer
pub closed_is : (way : Way) (g : History) (t : Transmitter) (frame : List ℕ) (serial : ℕ) (x : Buffer) → Stands way g → (m : Makes way.tx t frame way.accepted serial x) → IsClosed (cover g) (taken g) (packs way.tx.params.class way.lane) m.span
closed_is way g t frame serial x w m =
    let closed : closed_span way.tx.params way.lane (with_frame way.tx frame) (cover g) (taken g + 1 - 1) ≡ Some m.span = sym (closing_is way g frame w) ∙ m.closed in
    let same : taken g + 1 - 1 ≡ taken g = omega arith in
    closed_as (packs way.tx.params.class way.lane) (nat_lt (cover g) (taken g) && not (frames_fit way.tx.params (with_frame way.tx frame))) (ends_at_limit way.lane way.tx.params (taken g + 1 - cover g)) (cover g) (taken g) m.span
    (λ not_so. let e : length way.tx.builder.frames ≡ 0 = none way.tx.builder.frames not_so w.building.blocks in let c : cover g + length way.tx.builder.frames ≡ taken g = w.building.covered in omega arith)
    (subst (λ i. closed_span way.tx.params way.lane (with_frame way.tx frame) (cover g) i ≡ Some m.span) same closed)
  where
    none : (xs : List (List ℕ)) → packs way.tx.params.class way.lane ≡ false → (0 < length xs → packs way.tx.params.class way.lane ≡ true) → length xs ≡ 0
    none [] f t = refl
    none (y ∷ ys) f t = absurd (false≢true (sym f ∙ t (omega arith)))

pub makes_new : (way : Way) (g : History) (t : Transmitter) (sender : ℕ) (frame : List ℕ) (x : Buffer) → Stands way g → Makes way.tx t frame way.accepted way.made x
    → IsNew way.tx t.home t.builder ((Took way.lane sender, []) ∷ g) x
makes_new way g t sender frame x w m =
    let c = closed_is way g t frame way.made x w m in
    let to_is : x.to ≡ m.span.1 = m.end in
    let top : m.span.1 ≤ taken g + 1 = c.most in
    record {
      once = λ i. made_once way.tx t x.number i m.uses m.no_claim;
      count = made_count way.tx t x.number m.uses m.no_claim;
      known = m.made.known;
      sized = m.made.sized;
      short = m.made.fits;
      serial_is = m.made.serial_is ∙ sym w.building.made_is;
      next = record { begins = m.made.from_is ∙ c.begins; is_some = m.made.whole.some; is_taken = omega arith };
      reads = m.made.whole.reads;
    }

no_block : (lane : Lane) (b : Bool) → claims_when lane (b && false) ≡ false
no_block Outward true = refl
no_block Outward false = refl
no_block Inward b = refl

no_pend : (lane : Lane) (b : Bool) (n : ℕ) → pends_when lane (b && false) n ≡ 0
no_pend Outward true n = refl
no_pend Outward false n = refl
no_pend Inward b n = refl

-- after a made line nothing, or the remainder, is built
pub makes_built : (way : Way) (g : History) (t : Transmitter) (sender : ℕ) (frame : List ℕ) (x : Buffer) (waited : ℕ) → Stands way g → Makes way.tx t frame way.accepted way.made x
    → IsBuilt way.lane way.tx.params t.builder (way.accepted + 1) (way.made + 1) (taken g + 1) (made g + 1) x.to false waited
makes_built way g t sender frame x waited w m =
    let c = closed_is way g t frame way.made x w m in
    let to_is : x.to ≡ m.span.1 = m.end in
    let accepted : taken g ≡ way.accepted = w.building.accepted_is in
    let number : made g ≡ way.made = w.building.made_is in
    let covered : cover g + length way.tx.builder.frames ≡ taken g = w.building.covered in
    let longer : length (with_frame way.tx frame) ≡ length way.tx.builder.frames + 1 = length_push way.tx.builder.frames frame in
    let left : length t.builder.frames ≡ length (with_frame way.tx frame) - (m.span.1 - m.span.0) = ap length m.left ∙ length-drop (m.span.1 - m.span.0) (with_frame way.tx frame) in
    let low : taken g ≤ m.span.1 = c.least in
    let high : m.span.1 ≤ taken g + 1 = c.most in
    let first : m.span.0 ≡ cover g = c.begins in
    record {
      accepted_is = omega arith;
      made_is = omega arith;
      covered = omega arith;
      from_is = λ h. m.from_is ∙ sym to_is;
      claimed = ap is_some m.no_claim ∙ sym (no_block way.lane (packs way.tx.params.class way.lane && nat_lt 0 (taken g + 1 - x.to)));
      pends = m.no_pending ∙ sym (no_pend way.lane (packs way.tx.params.class way.lane && nat_lt 0 (taken g + 1 - x.to)) waited);
      blocks = λ h. elim c.blocks [ inl whole ↦ absurd (omega (arith, whole)) | inr so ↦ so ];
      remainder = λ o n. omega arith;
    }

-- together, wherever the transfer was sent: into the queue
makes_queued : (way : Way) (g : History) (t : Transmitter) (sender : ℕ) (frame : List ℕ) (x : Buffer) → Stands way g → Makes way.tx t frame way.accepted way.made x → way.tx.deferred ≡ []
    → Stands (record way { accepted = way.accepted + 1; made = way.made + 1; tx = record way.tx { home = t.home; builder = t.builder }; bus = record way.bus { queue = way.bus.queue ++ x ∷ [] } }) ((Made way.lane (made g) x.from x.to, x.bytes) ∷ (Took way.lane sender, []) ∷ g)
makes_queued way g t sender frame x w m none =
    let b = queue_stands way.lane way.tx way.rx way.bus t.home t.builder ((Took way.lane sender, []) ∷ g) x (but_took way g sender w) (makes_new way g t sender frame x w m) none in
    record { sound = b.sound; placed = b.placed; building = makes_built way g t sender frame x _ w m; queues = b.queues; tries = b.tries; ends = b.ends; counts = b.counts; texts = b.texts }

-- into the deferred list
makes_deferred : (way : Way) (g : History) (t : Transmitter) (sender : ℕ) (frame : List ℕ) (x : Buffer) → Stands way g → Makes way.tx t frame way.accepted way.made x → way.bus.queue ≡ [] → way.bus.flight ≡ None → way.lane ≡ Outward
    → Stands (record way { accepted = way.accepted + 1; made = way.made + 1; tx = record way.tx { home = t.home; builder = t.builder; deferred = way.tx.deferred ++ x ∷ [] } }) ((Made way.lane (made g) x.from x.to, x.bytes) ∷ (Took way.lane sender, []) ∷ g)
makes_deferred way g t sender frame x w m none no_flight out =
    let b = defer_stands way.lane way.tx way.rx way.bus t.home t.builder ((Took way.lane sender, []) ∷ g) x (but_took way g sender w) (makes_new way g t sender frame x w m) none no_flight out in
    record { sound = b.sound; placed = b.placed; building = makes_built way g t sender frame x _ w m; queues = b.queues; tries = b.tries; ends = b.ends; counts = b.counts; texts = b.texts }

abbrev made_way : Way → Transmitter → Bus → Way
made_way way t bus = record way { accepted = way.accepted + 1; made = way.made + 1; tx = t; bus = bus }

sent_stands : (way : Way) (g : History) (t t' : Transmitter) (bus' : Bus) (sender : ℕ) (frame : List ℕ) (x : Buffer) (d : Bool) → Stands way g → Makes way.tx t frame way.accepted way.made x
    → (d ≡ true → (way.bus.queue ≡ []) × (way.bus.flight ≡ None) × (way.lane ≡ Outward)) → (d ≡ false → way.tx.deferred ≡ [])
    → IsSent d t t' way.bus bus' x
    → Stands (made_way way t' bus') ((Made way.lane (made g) x.from x.to, x.bytes) ∷ (Took way.lane sender, []) ∷ g)
sent_stands way g t t' bus' sender frame x true w m dd qq sent =
    let y = dd refl in
    let same : t' ≡ record way.tx { home = t.home; builder = t.builder; deferred = way.tx.deferred ++ x ∷ [] } = sent.0 ∙ ap (λ (u : Transmitter). record u { deferred = u.deferred ++ x ∷ [] }) m.rest in
    let stands = makes_deferred way g t sender frame x w m y.0 y.1 y.2 in
    subst (λ u. Stands (made_way way u bus') ((Made way.lane (made g) x.from x.to, x.bytes) ∷ (Took way.lane sender, []) ∷ g)) (sym same)
    (subst (λ b. Stands (made_way way (record way.tx { home = t.home; builder = t.builder; deferred = way.tx.deferred ++ x ∷ [] }) b) ((Made way.lane (made g) x.from x.to, x.bytes) ∷ (Took way.lane sender, []) ∷ g)) (sym sent.1) stands)
sent_stands way g t t' bus' sender frame x false w m dd qq sent =
    let stands = makes_queued way g t sender frame x w m (qq refl) in
    subst (λ u. Stands (made_way way u bus') ((Made way.lane (made g) x.from x.to, x.bytes) ∷ (Took way.lane sender, []) ∷ g)) (sym (sent.0 ∙ m.rest))
    (subst (λ b. Stands (made_way way (record way.tx { home = t.home; builder = t.builder }) b) ((Made way.lane (made g) x.from x.to, x.bytes) ∷ (Took way.lane sender, []) ∷ g)) (sym sent.1) stands)

defers_when : (lane : Lane) (asleep : Bool) → defers lane asleep ≡ true → lane ≡ Outward
defers_when Outward asleep e = refl
defers_when Inward asleep e = absurd (false≢true e)

pub makes_stands : (way : Way) (g : History) (t t' : Transmitter) (bus' : Bus) (sender : ℕ) (frame : List ℕ) (x : Buffer) (asleep : Bool) → Stands way g → Makes way.tx t frame way.accepted way.made x
    → Agrees asleep way
    → IsSent (defers way.lane asleep) t t' way.bus bus' x
    → Stands (record way { accepted = way.accepted + 1; made = way.made + 1; tx = t'; bus = bus' }) ((Made way.lane way.made x.from x.to, x.bytes) ∷ (Took way.lane sender, []) ∷ g)
makes_stands way g t t' bus' sender frame x asleep w m agrees sent =
    subst (λ k. Stands (made_way way t' bus') ((Made way.lane k x.from x.to, x.bytes) ∷ (Took way.lane sender, []) ∷ g)) w.building.made_is
    (sent_stands way g t t' bus' sender frame x (defers way.lane asleep) w m
    (λ e. let q = agrees.none_queued e in (q.0, q.1, defers_when way.lane asleep e))
    agrees.none_deferred sent)

-- TICKS

pub closes_new : (way : Way) (g : History) (t : Transmitter) (x : Buffer) → Stands way g → Closes way.tx t way.made x → IsNew way.tx t.home t.builder g x
closes_new way g t x w m =
    let covered : cover g + length way.tx.builder.frames ≡ taken g = w.building.covered in
    let first : x.from ≡ cover g = m.made.from_is ∙ w.building.from_is m.some in
    let last : x.to ≡ way.tx.builder.from + length way.tx.builder.frames = m.made.to_is in
    let begins : way.tx.builder.from ≡ cover g = w.building.from_is m.some in
    record {
      once = λ i. made_once way.tx t x.number i m.uses m.no_claim;
      count = made_count way.tx t x.number m.uses m.no_claim;
      known = m.made.known;
      sized = m.made.sized;
      short = m.made.fits;
      serial_is = m.made.serial_is ∙ sym w.building.made_is;
      next = record { begins = first; is_some = m.made.whole.some; is_taken = omega arith };
      reads = m.made.whole.reads;
    }

closes_built : (way : Way) (g : History) (t : Transmitter) (x : Buffer) (waited : ℕ) → Stands way g → Closes way.tx t way.made x
    → IsBuilt way.lane way.tx.params t.builder way.accepted (way.made + 1) (taken g) (made g + 1) x.to false waited
closes_built way g t x waited w m =
    let number : made g ≡ way.made = w.building.made_is in
    let covered : cover g + length way.tx.builder.frames ≡ taken g = w.building.covered in
    let last : x.to ≡ way.tx.builder.from + length way.tx.builder.frames = m.made.to_is in
    let begins : way.tx.builder.from ≡ cover g = w.building.from_is m.some in
    let left : length t.builder.frames ≡ 0 = ap length m.left in
    record {
      accepted_is = w.building.accepted_is;
      made_is = omega arith;
      covered = omega arith;
      from_is = λ h. m.from_is;
      claimed = ap is_some m.no_claim ∙ sym (no_block way.lane (packs way.tx.params.class way.lane && nat_lt 0 (taken g - x.to)));
      pends = m.no_pending ∙ sym (no_pend way.lane (packs way.tx.params.class way.lane && nat_lt 0 (taken g - x.to)) waited);
      blocks = λ h. absurd (omega arith);
      remainder = λ o n. omega arith;
    }

abbrev ticked_way : Way → Transmitter → Bus → Way
ticked_way way t bus = record way { made = way.made + 1; tx = t; bus = bus }

closes_sent : (way : Way) (g : History) (t t' : Transmitter) (bus' : Bus) (x : Buffer) (d : Bool) → Stands way g → Closes way.tx t way.made x
    → (d ≡ true → (way.bus.queue ≡ []) × (way.bus.flight ≡ None) × (way.lane ≡ Outward)) → (d ≡ false → way.tx.deferred ≡ [])
    → IsSent d t t' way.bus bus' x
    → Stands (ticked_way way t' bus') ((Made way.lane (made g) x.from x.to, x.bytes) ∷ g)
closes_sent way g t t' bus' x true w m dd qq sent =
    let y = dd refl in
    let b = defer_stands way.lane way.tx way.rx way.bus t.home t.builder g x (but way g w) (closes_new way g t x w m) y.0 y.1 y.2 in
    let same : t' ≡ record way.tx { home = t.home; builder = t.builder; deferred = way.tx.deferred ++ x ∷ [] } = sent.0 ∙ ap (λ (u : Transmitter). record u { deferred = u.deferred ++ x ∷ [] }) m.rest in
    let stands : Stands (ticked_way way (record way.tx { home = t.home; builder = t.builder; deferred = way.tx.deferred ++ x ∷ [] }) way.bus) ((Made way.lane (made g) x.from x.to, x.bytes) ∷ g) =
    record { sound = b.sound; placed = b.placed; building = closes_built way g t x _ w m; queues = b.queues; tries = b.tries; ends = b.ends; counts = b.counts; texts = b.texts } in
    subst (λ u. Stands (ticked_way way u bus') ((Made way.lane (made g) x.from x.to, x.bytes) ∷ g)) (sym same)
    (subst (λ c. Stands (ticked_way way (record way.tx { home = t.home; builder = t.builder; deferred = way.tx.deferred ++ x ∷ [] }) c) ((Made way.lane (made g) x.from x.to, x.bytes) ∷ g)) (sym sent.1) stands)
closes_sent way g t t' bus' x false w m dd qq sent =
    let b = queue_stands way.lane way.tx way.rx way.bus t.home t.builder g x (but way g w) (closes_new way g t x w m) (qq refl) in
    let stands : Stands (ticked_way way (record way.tx { home = t.home; builder = t.builder }) (record way.bus { queue = way.bus.queue ++ x ∷ [] })) ((Made way.lane (made g) x.from x.to, x.bytes) ∷ g) =
    record { sound = b.sound; placed = b.placed; building = closes_built way g t x _ w m; queues = b.queues; tries = b.tries; ends = b.ends; counts = b.counts; texts = b.texts } in
    subst (λ u. Stands (ticked_way way u bus') ((Made way.lane (made g) x.from x.to, x.bytes) ∷ g)) (sym (sent.0 ∙ m.rest))
    (subst (λ c. Stands (ticked_way way (record way.tx { home = t.home; builder = t.builder }) c) ((Made way.lane (made g) x.from x.to, x.bytes) ∷ g)) (sym sent.1) stands)

pub closes_stands : (way : Way) (g : History) (t t' : Transmitter) (bus' : Bus) (x : Buffer) (asleep : Bool) → Stands way g → Closes way.tx t way.made x
    → Agrees asleep way
    → IsSent (defers way.lane asleep) t t' way.bus bus' x
    → Stands (record way { made = way.made + 1; tx = t'; bus = bus' }) ((Made way.lane way.made x.from x.to, x.bytes) ∷ g)
closes_stands way g t t' bus' x asleep w m agrees sent =
    subst (λ k. Stands (ticked_way way t' bus') ((Made way.lane k x.from x.to, x.bytes) ∷ g)) w.building.made_is
    (closes_sent way g t t' bus' x (defers way.lane asleep) w m
    (λ e. let q = agrees.none_queued e in (q.0, q.1, defers_when way.lane asleep e))
    agrees.none_deferred sent)

pend_less : (lane : Lane) (is_open : Bool) (n pending : ℕ) → pending ≡ pends_when lane is_open n → 0 < pending → pending - 1 ≡ pends_when lane is_open (n + 1)
pend_less Outward true n pending e h = omega (arith, e)
pend_less Outward false n pending e h = absurd (omega (arith, e))
pend_less Inward is_open n pending e h = absurd (omega (arith, e))

pub waits_stands : (way : Way) (g : History) (t : Transmitter) → Stands way g → Waits way.tx t → Stands (record way { tx = t }) ((Waited way.lane, []) ∷ g)
waits_stands way g t w m =
    let stands : Stands (record way { tx = record way.tx { builder = record way.tx.builder { pending = way.tx.builder.pending - 1 } } }) ((Waited way.lane, []) ∷ g) = record {
      sound = (tt, w.sound);
      placed = assumption w.placed;
      building = assumption (w.building, pend_less way.lane _ _ way.tx.builder.pending w.building.pends m.pends);
      queues = w.queues;
      tries = assumption w.tries;
      ends = w.ends;
      counts = w.counts;
      texts = w.texts;
    } in
    subst (λ x. Stands (record way { tx = x }) ((Waited way.lane, []) ∷ g)) (sym m.rest) stands

-- WHAT STAYS

record SentLeaves (b : Bool) (t t' : Transmitter) (bus' : Bus) : Type 0 where
  pub apart : AreApart b t'.deferred bus'.queue bus'.flight
  pub params_are : t'.params ≡ t.params
  pub builder_is : t'.builder ≡ t.builder

sent_leaves : (b : Bool) (t t' : Transmitter) (bus bus' : Bus) (x : Buffer) → AreApart b t.deferred bus.queue bus.flight → IsSent b t t' bus bus' x → SentLeaves b t t' bus'
sent_leaves true t t' bus bus' x a s = record {
  apart = record { none_queued = subst (λ (c : Bus). true ≡ true → (c.queue ≡ []) × (c.flight ≡ None)) (sym s.1) a.none_queued; none_deferred = λ e. absurd (false≢true (sym e)) };
  params_are = ap (λ (u : Transmitter). u.params) s.0;
  builder_is = ap (λ (u : Transmitter). u.builder) s.0;
}
sent_leaves false t t' bus bus' x a s = record {
  apart = record { none_queued = λ e. absurd (false≢true e); none_deferred = λ e. ap (λ (u : Transmitter). u.deferred) s.0 ∙ a.none_deferred e };
  params_are = ap (λ (u : Transmitter). u.params) s.0;
  builder_is = ap (λ (u : Transmitter). u.builder) s.0;
}

apart_rest : (b : Bool) (t t' : Transmitter) (bus : Bus) → t'.deferred ≡ t.deferred → AreApart b t.deferred bus.queue bus.flight → AreApart b t'.deferred bus.queue bus.flight
apart_rest b t t' bus e a = record { none_queued = a.none_queued; none_deferred = λ f. e ∙ a.none_deferred f }

drop_whole : {X : Type 0} (xs : List X) (n : ℕ) → n ≡ length xs → drop n xs ≡ []
drop_whole xs n e = drop_of_length-le xs (omega (arith, e))

pub closes_builds : (way : Way) (g : History) (t t' : Transmitter) (bus' : Bus) (x : Buffer) (asleep : Bool) → Stands way g → Closes way.tx t way.made x → Agrees asleep way
    → IsSent (defers way.lane asleep) t t' way.bus bus' x
    → Builds asleep way (record way { made = way.made + 1; tx = t'; bus = bus' }) way.tx.builder.frames g ((Made way.lane way.made x.from x.to, x.bytes) ∷ g)
closes_builds way g t t' bus' x asleep w m agrees sent =
    let l = sent_leaves (defers way.lane asleep) t t' way.bus bus' x (apart_rest (defers way.lane asleep) way.tx t way.bus (ap (λ (u : Transmitter). u.deferred) m.rest) agrees) sent in
    let last : x.to ≡ way.tx.builder.from + length way.tx.builder.frames = m.made.to_is in
    let begins : way.tx.builder.from ≡ cover g = w.building.from_is m.some in
    record {
      lane_is = refl;
      params_are = l.params_are ∙ ap (λ (u : Transmitter). u.params) m.rest;
      frames_are = ap (λ (b : Builder). b.frames) l.builder_is ∙ (m.left ∙ sym (drop_whole way.tx.builder.frames (x.to - cover g) (omega arith)));
      agrees = l.apart;
    }

pub makes_builds : (way : Way) (g : History) (t t' : Transmitter) (bus' : Bus) (sender : ℕ) (frame : List ℕ) (x : Buffer) (asleep : Bool) → Stands way g → Makes way.tx t frame way.accepted way.made x → Agrees asleep way
    → IsSent (defers way.lane asleep) t t' way.bus bus' x
    → Builds asleep way (record way { accepted = way.accepted + 1; made = way.made + 1; tx = t'; bus = bus' }) (with_frame way.tx frame) g ((Made way.lane way.made x.from x.to, x.bytes) ∷ (Took way.lane sender, []) ∷ g)
makes_builds way g t t' bus' sender frame x asleep w m agrees sent =
    let l = sent_leaves (defers way.lane asleep) t t' way.bus bus' x (apart_rest (defers way.lane asleep) way.tx t way.bus (ap (λ (u : Transmitter). u.deferred) m.rest) agrees) sent in
    let c = closed_is way g t frame way.made x w m in
    let first : m.span.0 ≡ cover g = c.begins in
    let to_is : x.to ≡ m.span.1 = m.end in
    let same : m.span.1 - m.span.0 ≡ x.to - cover g = omega arith in
    record {
      lane_is = refl;
      params_are = l.params_are ∙ ap (λ (u : Transmitter). u.params) m.rest;
      frames_are = ap (λ (b : Builder). b.frames) l.builder_is ∙ (m.left ∙ ap (λ n. drop n (with_frame way.tx frame)) same);
      agrees = l.apart;
    }

pub keeps_builds : (way : Way) (g : History) (t : Transmitter) (sender : ℕ) (frame : List ℕ) (asleep : Bool) → Keeps way.tx t frame way.accepted → Agrees asleep way
    → Builds asleep way (record way { accepted = way.accepted + 1; tx = t }) (with_frame way.tx frame) g ((Took way.lane sender, []) ∷ g)
keeps_builds way g t sender frame asleep k agrees =
    let none : cover g - cover g ≡ 0 = omega arith in
    record {
      lane_is = refl;
      params_are = ap (λ (u : Transmitter). u.params) k.rest;
      frames_are = k.frames_are ∙ ap (λ n. drop n (with_frame way.tx frame)) (sym none);
      agrees = apart_rest (defers way.lane asleep) way.tx t way.bus (ap (λ (u : Transmitter). u.deferred) k.rest) agrees;
    }
