-- What a host's builder holds, in the cases of its claim.
use Rattle.std.proofs.Common.{◌≡◌, ℕ, ◌+◌, ◌-◌, ◌<◌, ◌≤◌, Bool, true, false, List, [], ◌∷◌, ◌++◌, length, Option, Some, None, refl, sym, ap, ◌∙◌, subst, arith}
use Rattle.std.proofs.lemmas.Bool.{false≢true}
use Rattle.un_frame.specs.declared.params.Lane.TheVariants.{Outward}
use Rattle.un_frame.specs.Lanes.{packs}
use Rattle.un_agg.specs.Held.{Claim}
use Rattle.un_agg.specs.Block.{Block}
use Rattle.un_agg.specs.Building.{with_frame}
use Rattle.un_agg.specs.Host.{IsEither, IsHost, frames_as, held_in, remainder_in}
use Rattle.un_agg.specs.declared.host.HostAgg.TheInside.{Inside}

-- where a block is open
pub record UnderWay (a : Inside) : Type 0 where
  pub frames_are : (held_in a).frames ≡ a.block.frames
  pub some : 0 < length a.block.frames
  pub packed : packs a.block.params.class Outward ≡ true

pub under_way : (a : Inside) (claim : Claim) → a.block.claim ≡ Some claim → IsHost a → UnderWay a
under_way a claim e h =
    let either = subst (λ (c : Option Claim). IsEither c a.block.params a.block.frames a.remainder.items a.pending) e h.either in
    let same : (held_in a).frames ≡ a.block.frames = ap (λ (c : Option Claim). frames_as c a.block.frames a.remainder.items) e in
    let count = ap (λ (fs : List (List ℕ)). length fs) same in
    let some : 0 < length a.block.frames = either.some in
    record { frames_are = same; some = some; packed = h.packs_it (omega arith) }

-- an open block with one more frame
pub appended : (a : Inside) (block : Block) (claim : Claim) (frame : List ℕ) (number : ℕ) → a.block.claim ≡ Some claim → UnderWay a → block ≡ record a.block { frames = a.block.frames ++ frame ∷ [] }
    → (0 < length (held_in a).frames → number ≡ a.from + length (held_in a).frames)
    → record { params = block.params; from = a.from; frames = frames_as block.claim block.frames a.remainder.items; claim = block.claim; pending = a.pending }
    ≡ record (held_in a) { from = number - length (held_in a).frames; frames = with_frame (held_in a) frame; claim = Some claim }
appended a block claim frame number e u is next =
    let count = ap (λ (fs : List (List ℕ)). length fs) u.frames_are in
    let some : 0 < length a.block.frames = u.some in
    let at = next (omega arith) in
    let first : a.from ≡ number - length (held_in a).frames = omega (arith, at) in
    rw is (rw e (ap (λ (n : ℕ). record { params = a.block.params; from = n; frames = a.block.frames ++ frame ∷ []; claim = Some claim; pending = a.pending }) (rw e at first)))

-- a remainder alone
remains : (frame : List ℕ) → 14 ≤ length frame → remainder_in frame ≡ frame ∷ []
remains [] least = absurd (omega arith)
remains (byte ∷ bytes) least = refl

pub left_over : (claim : Option Claim) (frames : List (List ℕ)) (items frame : List ℕ) → claim ≡ None → items ≡ frame → 14 ≤ length frame → frames_as claim frames items ≡ frame ∷ []
left_over claim frames items frame none same least = rw (none, same) (remains frame least)

-- where none is open
pub record IsIdle (a : Inside) : Type 0 where
  pub frames_are : (held_in a).frames ≡ remainder_in a.remainder.items
  pub no_pending : a.pending ≡ 0

pub idle : (a : Inside) → a.block.claim ≡ None → IsHost a → IsIdle a
idle a e h =
    let either = subst (λ (c : Option Claim). IsEither c a.block.params a.block.frames a.remainder.items a.pending) e h.either in
    record { frames_are = ap (λ (c : Option Claim). frames_as c a.block.frames a.remainder.items) e; no_pending = either.no_pending }

pub nothing_packed : (frames : List (List ℕ)) (packed : Bool) → (0 < length frames → packed ≡ true) → packed ≡ false → frames ≡ []
nothing_packed [] packed f e = refl
nothing_packed (frame ∷ frames) packed f e = absurd (false≢true (sym e ∙ f (omega arith)))

-- after a transfer that left nothing
pub left_alone : (a : Inside) (number : ℕ) → a.block.claim ≡ None → IsIdle a → (held_in a).frames ≡ []
    → record (held_in a) { from = number } ≡ record (held_in a) { from = number; frames = []; claim = None; pending = 0 }
left_alone a number e i none =
    ap (λ (fs : List (List ℕ)). record (held_in a) { from = number; frames = fs }) none
    ∙ ap (λ (c : Option Claim). record (held_in a) { from = number; frames = []; claim = c }) e
    ∙ ap (λ (n : ℕ). record (held_in a) { from = number; frames = []; claim = None; pending = n }) i.no_pending

-- the first frame of a block
pub first_of : (a : Inside) (block : Block) (claim : Claim) (frame : List ℕ) (number : ℕ) → (held_in a).frames ≡ [] → block ≡ record a.block { frames = frame ∷ []; claim = Some claim }
    → record { params = block.params; from = number; frames = frames_as block.claim block.frames a.remainder.items; claim = block.claim; pending = a.pending }
    ≡ record (held_in a) { from = number - length (held_in a).frames; frames = with_frame (held_in a) frame; claim = Some claim }
first_of a block claim frame number none is =
    let count = ap (λ (fs : List (List ℕ)). length fs) none in
    let first : number ≡ number - length (held_in a).frames = omega (arith, count) in
    rw is (ap (λ (n : ℕ). record { params = a.block.params; from = n; frames = frame ∷ []; claim = Some claim; pending = a.pending }) first
    ∙ ap (λ (fs : List (List ℕ)). record { params = a.block.params; from = number - length (held_in a).frames; frames = fs ++ frame ∷ []; claim = Some claim; pending = a.pending }) (sym none))
