-- One line more: what is kept of what a lane builds goes on with it.
use Rattle.std.proofs.Common.{◌≡◌, ℕ, ◌+◌, ◌-◌, ◌<◌, ◌≤◌, min, Bool, true, false, not, ◌&&◌, nat_lt, List, [], ◌∷◌, ◌++◌, length, drop, Some, unwrap_or, refl, sym, ap, ◌∙◌, arith, if◌then◌else◌}
use Rattle.std.proofs.lemmas.Bool.{true≢false}
use Rattle.std.proofs.lemmas.List.{length_push, length-drop, drop-drop, drop-append-le}
use Rattle.un_facts.specs.Numbers.{one_if}
use Rattle.un_frame.specs.declared.params.TheConstants.{TIMER_TICKS}
use Rattle.un_frame.specs.declared.params.Params.{Params}
use Rattle.un_frame.specs.declared.params.Lane.{Lane}
use Rattle.un_frame.specs.declared.params.Lane.TheVariants.{Outward, Inward}
use Rattle.un_frame.specs.Lanes.{packs, outward_only}
use Rattle.un_journal.specs.declared.lines.Line.{Line}
use Rattle.un_journal.specs.declared.lines.Line.TheVariants.{Took, Made, Waited, Dropped}
use Rattle.un_journal.specs.Script.{Script, Frame}
use Rattle.un_journal.specs.History.{History, taken, cover, took_last, waited_after}
use Rattle.un_journal.specs.Lookup.{datagrams, feed_head, pending, claim, block_open}
use Rattle.un_journal.proofs.ForReader.{count_datagrams}
use Rattle.un_check.specs.Building.{Building, IsBuilt, nothing_built, end, open_in, claims}
use Rattle.un_check.specs.BuildingLines.{GoesOn, IsSpan, IsTold, after, took, made, covered, with_frame, pending_with}
use Rattle.un_check.proofs.BuildingTests.{push_some, open_is, waits_with, waits_less, no_wait}

-- no lines yet
begins_pending : (params : Params) (lane : Lane) → pending params lane [] ≡ 0
begins_pending params Outward = no_wait (packs params.class Outward && false) false (TIMER_TICKS - 0) refl
begins_pending params Inward = refl

pub begins : (script : Script) (lane : Lane) → IsBuilt script lane [] (nothing_built script.params lane)
begins script lane = record {
  params_are = refl;
  lane_is = refl;
  cover_is = refl;
  taken_is = omega arith;
  frames_are = refl;
  fresh_is = refl;
  pending_is = begins_pending script.params lane;
  remainder = λ o f. omega arith;
}

-- what is kept, with the script's own parameters and the lane
abbrev pub of : Script → Lane → Building → Building
of script lane b = record b { params = script.params; lane = lane }

pub same_of : (script : Script) (lane : Lane) (g : History) (b : Building) → IsBuilt script lane g b → b ≡ of script lane b
same_of script lane g b w = ap (λ p. record b { params = p }) w.params_are ∙ ap (λ l. record b { params = script.params; lane = l }) w.lane_is

-- A FRAME IS ACCEPTED

module _ (script : Script) (lane : Lane) (g : History) (b : Building) (w : IsBuilt script lane g b) where
  pub taken_of : taken g ≡ cover g + length b.frames
  taken_of = w.taken_is ∙ ap (λ c. c + length b.frames) (sym w.cover_is)

  low : cover g ≤ length (datagrams script lane g)
  low = let e = taken_of in let n = count_datagrams script lane g in omega (arith, e, n)

  pub took_frames : (frame : Frame) → drop (cover g) (datagrams script lane g ++ frame ∷ []) ≡ with_frame frame b
  took_frames frame = drop-append-le (cover g) (datagrams script lane g) (frame ∷ []) low ∙ ap (λ fs. fs ++ frame ∷ []) w.frames_are

took_pending : (script : Script) (lane l : Lane) (s : ℕ) (bytes : List ℕ) (g : History) (b : Building) (frame : Frame) → IsBuilt script lane g b
    → pending script.params lane ((Took l s, bytes) ∷ g) ≡ pending_with lane (record (of script lane b) { frames = with_frame frame b; is_fresh = true })
took_pending script Outward l s bytes g b frame w = rw (push_some b.frames frame, length_push b.frames frame)
    (waits_with (packs script.params.class Outward) (took_last g) TIMER_TICKS (taken g) (cover g) (length b.frames) b.pending (waited_after g) (taken_of script Outward g b w)
    (λ f. w.remainder refl (sym w.fresh_is ∙ f)) w.pending_is ∙ alike (packs script.params.class Outward) _ _)
  where
    alike : (packed : Bool) (x y : ℕ) → (if not packed then x else y) ≡ (if not (packed && true && true) then x else y)
    alike true x y = refl
    alike false x y = refl
took_pending script Inward l s bytes g b frame w = refl

pub took_kept : (script : Script) (lane l : Lane) (s : ℕ) (bytes : List ℕ) (g : History) (b : Building) (frame : Frame) → feed_head script lane g s ≡ Some frame
    → IsBuilt script lane g b → IsBuilt script lane ((Took l s, bytes) ∷ g) (took frame b)
took_kept script lane l s bytes g b frame told w = record {
  params_are = w.params_are;
  lane_is = w.lane_is;
  cover_is = w.cover_is;
  taken_is = let e : taken g ≡ end b = w.taken_is in let n : length (with_frame frame b) ≡ length b.frames + 1 = length_push b.frames frame in omega (arith, e, n);
  frames_are = ap (λ o. drop (cover g) (datagrams script lane g ++ unwrap_or o [] ∷ [])) told ∙ took_frames script lane g b w frame;
  fresh_is = refl;
  pending_is = took_pending script lane l s bytes g b frame w
      ∙ ap (λ (c : Building). pending_with c.lane (record c { frames = with_frame frame b; is_fresh = true })) (sym (same_of script lane g b w));
  remainder = λ o f. absurd (true≢false f);
}

-- FRAMES ARE MADE OR DROPPED

module _ (script : Script) (lane : Lane) (g : History) (b : Building) (to : ℕ) (begins_low : b.cover ≤ to) (w : IsBuilt script lane g b) where
  covered_frames : drop to (datagrams script lane g) ≡ drop (to - b.cover) b.frames
  covered_frames =
      let sum : cover g + (to - b.cover) ≡ to = let c : cover g ≡ b.cover = w.cover_is in omega (arith, c) in
      ap (λ n. drop n (datagrams script lane g)) (sym sum) ∙ sym (drop-drop (to - b.cover) (cover g) (datagrams script lane g)) ∙ ap (drop (to - b.cover)) w.frames_are

  covered_taken : to ≤ end b → taken g ≡ to + length (drop (to - b.cover) b.frames)
  covered_taken high = let e : taken g ≡ end b = w.taken_is in let n = length-drop (to - b.cover) b.frames in omega (arith, e, n)

made_pending : (params : Params) (lane l : Lane) (k from to : ℕ) (bytes : List ℕ) (g : History) → pending params lane ((Made l k from to, bytes) ∷ g) ≡ 0
made_pending params Outward l k from to bytes g = no_wait (packs params.class Outward && nat_lt 0 (taken g - to)) false _ refl
made_pending params Inward l k from to bytes g = refl

pub made_kept : (script : Script) (lane l : Lane) (k from to : ℕ) (bytes : List ℕ) (g : History) (b : Building) → IsSpan from to b
    → IsBuilt script lane g b → IsBuilt script lane ((Made l k from to, bytes) ∷ g) (made to b)
made_kept script lane l k from to bytes g b goes w =
    let first : from ≡ b.cover = goes.begins in let some : from < to = goes.is_some in
    record {
      params_are = w.params_are;
      lane_is = w.lane_is;
      cover_is = refl;
      taken_is = covered_taken script lane g b to (omega arith) w goes.is_accepted;
      frames_are = covered_frames script lane g b to (omega arith) w;
      fresh_is = refl;
      pending_is = made_pending script.params lane l k from to bytes g;
      remainder = λ o f. let most : end b ≤ to + 1 = goes.leaves (w.lane_is ∙ o) in let n = length-drop (to - b.cover) b.frames in omega (arith, most, n);
    }

dropped_pending : (params : Params) (lane l : Lane) (from to cause : ℕ) (bytes : List ℕ) (g : History) → taken g ≡ to → pending params lane ((Dropped l from to cause, bytes) ∷ g) ≡ 0
dropped_pending params Outward l from to cause bytes g e =
    ap (λ x. if packs params.class Outward && x && took_last g then TIMER_TICKS - waited_after g (min (taken g - 1) (to + 1)) else 0) (none_left (taken g) to e)
    ∙ closed (packs params.class Outward) (took_last g) _
  where
    none_left : (t c : ℕ) → t ≡ c → nat_lt 0 (t - c) ≡ false
    none_left t c e = ap (nat_lt 0) (let z : t - c ≡ 0 = omega arith in z)

    closed : (packed fresh : Bool) (n : ℕ) → (if packed && false && fresh then n else 0) ≡ 0
    closed true fresh n = refl
    closed false fresh n = refl
dropped_pending params Inward l from to cause bytes g e = refl

dropped_kept : (script : Script) (lane l : Lane) (from to cause : ℕ) (bytes : List ℕ) (g : History) (b : Building) → to ≡ end b
    → IsBuilt script lane g b → IsBuilt script lane ((Dropped l from to cause, bytes) ∷ g) (covered to b)
dropped_kept script lane l from to cause bytes g b goes w =
    let n = length-drop (to - b.cover) b.frames in
    record {
      params_are = w.params_are;
      lane_is = w.lane_is;
      cover_is = refl;
      taken_is = covered_taken script lane g b to (omega arith) w (omega arith);
      frames_are = covered_frames script lane g b to (omega arith) w;
      fresh_is = w.fresh_is;
      pending_is = dropped_pending script.params lane l from to cause bytes g (w.taken_is ∙ sym goes);
      remainder = λ o f. omega (arith, n);
    }

-- A TICK IS WAITED

waited_pending : (params : Params) (lane l : Lane) (bytes : List ℕ) (g : History) (p : ℕ) → pending params lane g ≡ p → pending params lane ((Waited l, bytes) ∷ g) ≡ p - 1
waited_pending params Outward l bytes g p e = waits_less (block_open params Outward g) TIMER_TICKS p (waited_after g (min (taken g - 1) (cover g + 1))) e
waited_pending params Inward l bytes g p e = let none : 0 ≡ p = e in omega arith

-- THE LAWS

pub kept : (script : Script) (lane : Lane) (g : History) (b : Building) (frame : Frame) (line : Line) (bytes : List ℕ)
    → IsTold script lane frame line g → GoesOn line b → IsBuilt script lane g b → IsBuilt script lane ((line, bytes) ∷ g) (after frame line b)
kept script lane g b frame (Took l s) bytes told goes w = took_kept script lane l s bytes g b frame told w
kept script lane g b frame (Made l k from to) bytes told goes w = made_kept script lane l k from to bytes g b goes w
kept script lane g b frame (Dropped l from to cause) bytes told goes w = dropped_kept script lane l from to cause bytes g b goes w
kept script lane g b frame (Waited l) bytes told goes w = record {
  params_are = w.params_are;
  lane_is = w.lane_is;
  cover_is = w.cover_is;
  taken_is = w.taken_is;
  frames_are = w.frames_are;
  fresh_is = w.fresh_is;
  pending_is = waited_pending script.params lane l bytes g b.pending w.pending_is;
  remainder = w.remainder;
}
kept script Outward g b frame line bytes told goes w = record {
  params_are = w.params_are;
  lane_is = w.lane_is;
  cover_is = w.cover_is;
  taken_is = w.taken_is;
  frames_are = w.frames_are;
  fresh_is = w.fresh_is;
  pending_is = w.pending_is;
  remainder = w.remainder;
}
kept script Inward g b frame line bytes told goes w = record {
  params_are = w.params_are;
  lane_is = w.lane_is;
  cover_is = w.cover_is;
  taken_is = w.taken_is;
  frames_are = w.frames_are;
  fresh_is = w.fresh_is;
  pending_is = w.pending_is;
  remainder = w.remainder;
}

claim_is : (params : Params) (lane : Lane) (g : History) (open' : Bool) → block_open params lane g ≡ open' → claim params lane g ≡ one_if (outward_only lane open')
claim_is params Outward g open' e = rw e (as_number open')
  where
    as_number : (b : Bool) → (if b then 1 else 0) ≡ one_if b
    as_number true = refl
    as_number false = refl
claim_is params Inward g open' e = refl

pub claimed : (script : Script) (lane : Lane) (g : History) (b : Building) → IsBuilt script lane g b → claim script.params lane g ≡ one_if (claims b)
claimed script lane g b w =
    claim_is script.params lane g (open_in lane b) (open_is script.params lane g b w.params_are (taken_of script lane g b w) w.fresh_is)
    ∙ ap (λ l. one_if (outward_only l (open_in l b))) (sym w.lane_is)
