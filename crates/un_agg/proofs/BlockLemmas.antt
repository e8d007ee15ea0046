-- An open block begins, grows and is closed.
use Rattle.std.proofs.Common.{◌≡◌, ℕ, suc, ◌+◌, ◌<◌, ◌≤◌, true, List, [], ◌∷◌, ◌++◌, length, map, Option, Some, IsTrue, refl, sym, ap, ◌∙◌, subst, arith, length-append}
use Rattle.std.specs.List.{AllByRecursion}
use Rattle.un_facts.proofs.Lists.{all_more}
use Rattle.un_frame.specs.declared.params.Params.{Params}
use Rattle.un_frame.specs.OpenFrames.{open_frames}
use Rattle.un_frame.specs.Params.{AreInRange, Agree}
use Rattle.un_frame.specs.Wire.{Coding, IsOpen, FitInTurn, frame_fits, capacity_of, form, open_form}
use Rattle.un_frame.proofs.PartLemmas.{open_frames_found}
use Rattle.un_frame.proofs.FrameLemmas.{open_grows}
use Rattle.un_frame.proofs.WireLemmas.{form_is_read, fit_last}
use Rattle.un_wire.proofs.OpenSteps.{begun as opened}
use Rattle.un_req.specs.Request.{Buffer}
use Rattle.un_wire.specs.Codings.{coding_of}
use Rattle.un_wire.specs.declared.codec.Codec.{Codec}
use Rattle.un_agg.specs.Held.{Claim, claim_of}
use Rattle.un_agg.specs.Block.{Block, IsBlock, IsBlockIn, IsSoundBlock, IsTransfer}
use Rattle.un_agg.specs.declared.block.OpenBlock.TheInside.{Inside}

abbrev pub frames_of : Coding → Buffer → List (List ℕ)
frames_of coding r = open_frames coding.params coding.sizes r.bytes

pub length_sizes : (frames : List (List ℕ)) → length (map length frames) ≡ length frames
length_sizes [] = refl
length_sizes (frame ∷ frames) = ap (λ n. suc n) (length_sizes frames)

-- as many sizes as frames
pub sizes_count : (p : Params) (sizes bytes : List ℕ) (frames : List (List ℕ)) → IsOpen p sizes bytes frames → length sizes ≡ length frames
sizes_count p sizes bytes frames o = sym (ap (λ (ns : List ℕ). length ns) o.lengths) ∙ length_sizes frames

-- a block with these frames
pub record Grown (p : Params) (claim : Claim) (coding : Coding) (r : Buffer) (frames : List (List ℕ)) : Type 0 where
  pub block : IsBlock coding r
  pub params_are : coding.params ≡ p
  pub claim_is : claim_of r ≡ claim
  pub frames_are : frames_of coding r ≡ frames

grown : (coding : Coding) (r : Buffer) (frames : List (List ℕ)) → coding.is_open ≡ true → IsOpen coding.params coding.sizes r.bytes frames → 0 < length frames
    → AllByRecursion (λ frame. 14 ≤ length frame) frames → FitInTurn coding.params.class coding.params [] coding.sizes → capacity_of coding.params ≤ r.capacity → Grown coding.params (claim_of r) coding r frames
grown coding r frames opened o some least fit room =
    let found : frames_of coding r ≡ frames = open_frames_found coding.params coding.sizes r.bytes frames o in
    let count = sizes_count coding.params coding.sizes r.bytes frames o in
    record {
      block = record {
        is_open = opened;
        left = subst (IsOpen coding.params coding.sizes r.bytes) (sym found) o;
        some = omega (arith, count, some);
        least = subst (AllByRecursion (λ frame. 14 ≤ length frame)) (sym found) least;
        fit = fit;
        room = room;
      };
      params_are = refl;
      claim_is = refl;
      frames_are = found;
    }

-- the first frame
pub begun : (old mid new : Coding) (before opening after : Buffer) (frame : List ℕ) → mid ≡ record old { sizes = []; is_open = true } → opening ≡ record before { bytes = open_form old.params [] }
    → new ≡ record mid { sizes = mid.sizes ++ length frame ∷ [] }
    → ((frames : List (List ℕ)) → IsOpen mid.params mid.sizes opening.bytes frames → after ≡ record opening { bytes = open_form mid.params (frames ++ frame ∷ []) })
    → 14 ≤ length frame → IsTrue (frame_fits old.params [] (length frame)) → capacity_of old.params ≤ before.capacity → Grown old.params (claim_of before) new after (frame ∷ [])
begun old mid new before opening after frame k r l step least fits room =
    let of : Coding = record old { sizes = length frame ∷ []; is_open = true } in
    let to : Buffer = record before { bytes = open_form old.params (frame ∷ []) } in
    let new_is : new ≡ of = l ∙ ap (λ (c : Coding). record c { sizes = c.sizes ++ length frame ∷ [] }) k in
    let after_is : after ≡ to = step [] (opened old mid before opening k r)
    ∙ ap (λ (b : Buffer). record b { bytes = open_form mid.params (frame ∷ []) }) r
    ∙ ap (λ (p : Params). record before { bytes = open_form p (frame ∷ []) }) (ap (λ (c : Coding). c.params) k) in
    rw (new_is, after_is) (grown of to (frame ∷ []) refl (record { lengths = refl; so_far = refl }) (omega arith) (least, tt) (fits, tt) room)

-- one more
pub appended : (old new : Coding) (before after : Buffer) (frame : List ℕ) → IsBlock old before → new ≡ record old { sizes = old.sizes ++ length frame ∷ [] }
    → ((frames : List (List ℕ)) → IsOpen old.params old.sizes before.bytes frames → after ≡ record before { bytes = open_form old.params (frames ++ frame ∷ []) })
    → 14 ≤ length frame → IsTrue (frame_fits old.params old.sizes (length frame)) → Grown old.params (claim_of before) new after (frames_of old before ++ frame ∷ [])
appended old new before after frame b k step least fits =
    let frames = frames_of old before in
    let more = open_grows old.params old.sizes before.bytes frames frame b.left in
    let is : after ≡ record before { bytes = open_form old.params (frames ++ frame ∷ []) } = step frames b.left in
    let of : Coding = record old { sizes = old.sizes ++ length frame ∷ [] } in
    let to : Buffer = record before { bytes = open_form old.params (frames ++ frame ∷ []) } in
    let long = length-append frames (frame ∷ []) in
    subst (λ (c : Coding). Grown old.params (claim_of before) c after (frames ++ frame ∷ [])) (sym k)
    (subst (λ (r : Buffer). Grown old.params (claim_of before) of r (frames ++ frame ∷ [])) (sym is)
    (grown of to (frames ++ frame ∷ []) b.is_open more (omega (arith, long)) (all_more (λ (f : List ℕ). 14 ≤ length f) frames frame b.least least)
    (fit_last old.params.class old.params [] old.sizes (length frame) b.fit fits) b.room))

-- what callers see of such a block
abbrev block : Params → List (List ℕ) → Claim → Block
block p frames claim = record { params = p; frames = frames; claim = Some claim }

pub seen : (p : Params) (claim : Claim) (coding : Coding) (r : Buffer) (frames : List (List ℕ)) → Grown p claim coding r frames → block coding.params (frames_of coding r) (claim_of r) ≡ block p frames claim
seen p claim coding r frames g =
    ap (λ (q : Params). block q (frames_of coding r) (claim_of r)) g.params_are
    ∙ ap (λ (fs : List (List ℕ)). block p fs (claim_of r)) g.frames_are
    ∙ ap (λ (c : Claim). block p frames c) g.claim_is

-- and what is kept of it
pub kept : (b : Inside) (codec : Codec) (r : Buffer) (claim : Claim) (frames : List (List ℕ)) → IsSoundBlock b → Grown (coding_of b.codec).params claim (coding_of codec) r frames
    → IsSoundBlock (record { codec = codec; limit = b.limit; request = Some r })
kept b codec r claim frames k g = record {
  in_range = subst AreInRange (sym g.params_are) k.in_range;
  agree = subst (λ (p : Params). Agree p) (sym g.params_are) k.agree;
  limit = k.limit ∙ ap (λ (p : Params). p.datagrams) (sym g.params_are);
  block = g.block;
}

-- the request that was there
pub held_block : (coding : Coding) (o : Option Buffer) (r : Buffer) → o ≡ Some r → IsBlockIn coding o → IsBlock coding r
held_block coding o r e b = subst (IsBlockIn coding) e b

-- a closed block is the transfer of its frames
pub closed : (coding : Coding) (before after : Buffer) (from to serial : ℕ) → IsBlock coding before → AreInRange coding.params → Agree coding.params
    → to ≡ from + length coding.sizes → after ≡ record before { from = from; to = to; serial = serial; bytes = form coding.params serial (frames_of coding before) }
    → IsTransfer coding.params (frames_of coding before) from serial after
closed coding before after from to serial b in_range agree end is =
    let frames = frames_of coding before in
    let count = sizes_count coding.params coding.sizes before.bytes frames b.left in
    let some : 0 < length coding.sizes = b.some in
    let read = form_is_read coding.params serial frames in_range agree (omega arith) b.least (subst (FitInTurn coding.params.class coding.params []) (sym b.left.lengths) b.fit) in
    rw is (record {
      from_is = refl;
      to_is = omega arith;
      serial_is = refl;
      bytes_are = refl;
      fits = read.1;
      whole = record { some = omega arith; reads = record { frames = frames; commands = 0; reads = read.0; counted = omega arith } };
    })
