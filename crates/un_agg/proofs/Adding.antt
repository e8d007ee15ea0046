-- A builder takes a frame: which span it closes, and what is left.
use Rattle.std.proofs.Common.{◌≡◌, ℕ, zero, suc, ◌+◌, ◌-◌, ◌<◌, ◌≤◌, Bool, true, false, not, ◌&&◌, ◌||◌, nat_lt, List, [], ◌∷◌, ◌++◌, length, map, take, drop, Some, None, IsTrue, refl, sym, ap, ◌∙◌, subst, arith, length-append}
use Rattle.std.proofs.Math.Seq.{take-append_seam, drop-append_seam}
use Rattle.std.proofs.lemmas.Bool.{false≢true, ltb-true}
use Rattle.std.proofs.lemmas.List.{take_all}
use Rattle.un_facts.specs.Lists.{is_empty}
use Rattle.un_frame.proofs.AllLaws.{laws_of}
use Rattle.un_frame.proofs.FrameLemmas.{map_length_more}
use Rattle.un_frame.specs.declared.params.Lane.{Lane}
use Rattle.un_frame.specs.declared.params.Lane.TheVariants.{Outward, Inward}
use Rattle.un_frame.specs.declared.params.Params.{Params}
use Rattle.un_frame.specs.Cut.{closed_span, ends_at_limit}
use Rattle.un_frame.specs.Lanes.{packs, frames_fit, sizes_fit_as}
use Rattle.un_frame.specs.Wire.{capacity_of, frame_fits}
use Rattle.un_req.specs.Request.{Buffer}
use Rattle.un_endpoint.specs.declared.outcome.Built.{Built}
use Rattle.un_endpoint.specs.declared.outcome.Built.TheVariants as built
use Rattle.un_agg.specs.Held.{Claim, Held, claim_of}
use Rattle.un_agg.specs.Block.{IsTransfer}
use Rattle.un_agg.specs.Building.{Adds, AddsKept, AddsMade, ClosesAtLimit, ClosesIfFull, StaysOpen, keeps_frame, span_closed, with_frame}

-- a frame that fits an empty transfer is no longer than the capacity
pub fits_capacity : (p : Params) (size : ℕ) → IsTrue (frame_fits p [] size) → size ≤ capacity_of p
fits_capacity p size t = (laws_of p.class).within p size t

-- where the lane packs, frames fit together where the last, which fits an empty transfer, fits the open one of those before
pub fits_together : (lane : Lane) (p : Params) (frames : List (List ℕ)) (frame : List ℕ) → packs p.class lane ≡ true → IsTrue (frame_fits p [] (length frame)) → frames_fit p (frames ++ frame ∷ []) ≡ frame_fits p (map length frames) (length frame)
fits_together lane p frames frame e alone = ap (λ (ns : List ℕ). sizes_fit_as p.class p ns) (map_length_more frames frame) ∙ (laws_of p.class).together lane p (map length frames) (length frame) e alone

-- THE SPAN THAT A FRAME CLOSES

module _ (lane : Lane) (p : Params) (frames : List (List ℕ)) (a n : ℕ) where
  span_alone : packs p.class lane ≡ false → closed_span p lane frames a n ≡ Some (n, n + 1)
  span_alone e = rw e refl

  span_before : packs p.class lane ≡ true → a < n → frames_fit p frames ≡ false → closed_span p lane frames a n ≡ Some (a, n)
  span_before e less f = grind (arith, e, f)

  span_at_limit : packs p.class lane ≡ true → (nat_lt a n && not (frames_fit p frames)) ≡ false → ends_at_limit lane p (n + 1 - a) ≡ true → closed_span p lane frames a n ≡ Some (a, n + 1)
  span_at_limit e f l = rw (e, f, l) refl

  span_none : packs p.class lane ≡ true → (nat_lt a n && not (frames_fit p frames)) ≡ false → ends_at_limit lane p (n + 1 - a) ≡ false → closed_span p lane frames a n ≡ None
  span_none e f l = rw (e, f, l) refl

-- WHAT A FRAME MAKES

pub same_claim : (a b : Claim) → Some a ≡ Some b → a ≡ b
same_claim a b e = cc

-- a class that packs one frame into a transfer
pub added_alone : (lane : Lane) (old new : Held) (claim : Claim) (frame : List ℕ) (number serial : ℕ) (request : Buffer) → packs old.params.class lane ≡ false → old.frames ≡ []
    → claim ≡ claim_of request → IsTransfer old.params (frame ∷ []) number serial request → new ≡ record old { from = number + 1; frames = []; claim = None; pending = 0 } → AddsMade lane old new claim frame number serial request
added_alone lane old new claim frame number serial request alone none claimed made is =
    let all : with_frame old frame ≡ frame ∷ [] = ap (λ (fs : List (List ℕ)). fs ++ frame ∷ []) none in
    let one : number + 1 - number ≡ suc zero = omega arith in
    record {
      span = (number, number + 1);
      closed = span_alone lane old.params (with_frame old frame) (number - length old.frames) number alone;
      claimed = claimed;
      made = rw (one, all) made;
      end = made.to_is;
      rest = rw (one, all) is;
    }

-- a frame that doesn't fit: what was built is made, and the frame is left
pub added_after : (lane : Lane) (old new : Held) (claim : Claim) (frame : List ℕ) (number serial : ℕ) (request : Buffer) → packs old.params.class lane ≡ true → IsTrue (frame_fits old.params [] (length frame)) → 0 < length old.frames
    → frame_fits old.params (map length old.frames) (length frame) ≡ false → number ≡ old.from + length old.frames
    → claim ≡ claim_of request → IsTransfer old.params old.frames old.from serial request → new ≡ record old { from = number; frames = frame ∷ []; claim = None; pending = 0 } → AddsMade lane old new claim frame number serial request
added_after lane old new claim frame number serial request packed alone some full next claimed made is =
    let first : number - length old.frames ≡ old.from = omega arith in
    let count : number - old.from ≡ length old.frames = omega arith in
    let fits = fits_together lane old.params old.frames frame packed alone ∙ full in
    record {
      span = (old.from, number);
      closed = rw first (span_before lane old.params (with_frame old frame) old.from number packed (omega arith) fits);
      claimed = claimed;
      made = rw (count, take-append_seam old.frames (frame ∷ [])) made;
      end = made.to_is ∙ sym next;
      rest = rw (count, drop-append_seam old.frames (frame ∷ [])) is;
    }

-- a frame that was appended
not_both : (less fit : Bool) → (less ≡ true → fit ≡ true) → (less && not fit) ≡ false
not_both false fit f = refl
not_both true fit f = rw (f refl) refl

kept_whole : (frames : List (List ℕ)) (n : ℕ) → n ≡ length frames → (take n frames ≡ frames) × (drop n frames ≡ [])
kept_whole frames n e = rw e (take_all (length frames) frames (omega arith), drop_whole frames)
  where
    drop_whole : (xs : List (List ℕ)) → drop (length xs) xs ≡ []
    drop_whole [] = refl
    drop_whole (x ∷ xs) = drop_whole xs

count_of : (number from size : ℕ) → (0 < size → number ≡ from + size) → number + 1 - (number - size) ≡ size + 1
count_of number from zero next = omega arith
count_of number from (suc size) next = let at = next (omega arith) in omega (arith, at)

end_of_it : (number from size : ℕ) → (0 < size → number ≡ from + size) → number - size + (size + 1) ≡ number + 1
end_of_it number from zero next = omega arith
end_of_it number from (suc size) next = let at = next (omega arith) in omega (arith, at)

module _ (old mid new : Held) (claim : Claim) (frame : List ℕ) (number serial : ℕ) (packed : packs old.params.class Outward ≡ true) (alone : IsTrue (frame_fits old.params [] (length frame))) (fits : 0 < length old.frames → frame_fits old.params (map length old.frames) (length frame) ≡ true) (next : 0 < length old.frames → number ≡ old.from + length old.frames) (mid_is : mid ≡ record old { from = number - length old.frames; frames = with_frame old frame; claim = Some claim }) where
  count : number + 1 - (number - length old.frames) ≡ length (with_frame old frame)
  count = count_of number old.from (length old.frames) next ∙ (let long = length-append old.frames (frame ∷ []) in omega (arith, long))

  not_cut : (nat_lt (number - length old.frames) number && not (frames_fit old.params (with_frame old frame))) ≡ false
  not_cut = not_both (nat_lt (number - length old.frames) number) (frames_fit old.params (with_frame old frame)) (λ less.
      let l : number - length old.frames < number = ltb-true _ _ less in
      fits_together Outward old.params old.frames frame packed alone ∙ fits (omega arith))

  stays : StaysOpen mid new → AddsKept old new claim frame number
  stays s =
      let at : StaysOpen (record old { from = number - length old.frames; frames = with_frame old frame; claim = Some claim }) new = subst (λ (h : Held). StaysOpen h new) mid_is s in
      record {
        stays = span_none Outward old.params (with_frame old frame) (number - length old.frames) number packed not_cut (ap (ends_at_limit Outward old.params) count ∙ at.below);
        rest = at.rest;
      }

  closes : (request : Buffer) → ClosesAtLimit mid new serial request → AddsMade Outward old new claim frame number serial request
  closes request s =
      let at : ClosesAtLimit (record old { from = number - length old.frames; frames = with_frame old frame; claim = Some claim }) new serial request = subst (λ (h : Held). ClosesAtLimit h new serial request) mid_is s in
      let whole = kept_whole (with_frame old frame) (number + 1 - (number - length old.frames)) count in
      let long = length-append old.frames (frame ∷ []) in
      let end : request.to ≡ number + 1 = at.closed.made.to_is ∙ (let last = end_of_it number old.from (length old.frames) next in omega (arith, long, last)) in
      record {
        span = (number - length old.frames, number + 1);
        closed = span_at_limit Outward old.params (with_frame old frame) (number - length old.frames) number packed not_cut (ap (ends_at_limit Outward old.params) count ∙ at.at_limit);
        claimed = same_claim claim (claim_of request) at.closed.claimed;
        made = rw whole.0 at.closed.made;
        end = end;
        rest = at.closed.rest ∙ rw (whole.1, end) refl;
      }

  pub added_settled : (answer : Built) → ClosesIfFull mid new serial answer → Adds old new claim frame number serial answer
  added_settled built.Kept s = stays s
  added_settled (built.Made request) s = closes request s
  added_settled built.Busy s = absurd s

-- a frame that a gadget's builder doesn't keep, in a class that packs
pub record NotKept (held : Held) (frame : List ℕ) : Type 0 where
  pub some : 0 < length held.frames
  pub full : frame_fits held.params (map length held.frames) (length frame) ≡ false

not_kept_as : (frames : List (List ℕ)) (packed fits : Bool) → packed ≡ true → (packed && (is_empty frames || fits)) ≡ false → (0 < length frames) × (fits ≡ false)
not_kept_as [] true fits e k = absurd (false≢true (sym k))
not_kept_as (x ∷ xs) true fits e k = (omega arith, k)
not_kept_as frames false fits e k = absurd (false≢true e)

pub not_kept : (held : Held) (frame : List ℕ) → packs held.params.class Inward ≡ true → keeps_frame held (length frame) ≡ false → NotKept held frame
not_kept held frame packed closes =
    let both = not_kept_as held.frames (packs held.params.class Inward) (frame_fits held.params (map length held.frames) (length frame)) packed closes in
    record { some = both.0; full = both.1 }

-- a frame that a gadget's builder keeps closes nothing
keeps_as : (frames : List (List ℕ)) (packed fits : Bool) → (packed && (is_empty frames || fits)) ≡ true → (packed ≡ true) × (0 < length frames → fits ≡ true)
keeps_as [] true fits e = (refl, λ some. absurd (omega (arith, some)))
keeps_as (x ∷ xs) true fits e = (refl, λ some. e)
keeps_as frames false fits e = absurd (false≢true e)

pub kept_open : (held : Held) (frame : List ℕ) (number : ℕ) → keeps_frame held (length frame) ≡ true → IsTrue (frame_fits held.params [] (length frame)) → span_closed Inward held frame number ≡ None
kept_open held frame number keeps alone =
    let k = keeps_as held.frames (packs held.params.class Inward) (frame_fits held.params (map length held.frames) (length frame)) keeps in
    let first = number - length held.frames in
    span_none Inward held.params (with_frame held frame) first number k.0
    (not_both (nat_lt first number) (frames_fit held.params (with_frame held frame)) (λ less.
    let l : first < number = ltb-true _ _ less in
    fits_together Inward held.params held.frames frame k.0 alone ∙ k.1 (omega arith)))
    refl
