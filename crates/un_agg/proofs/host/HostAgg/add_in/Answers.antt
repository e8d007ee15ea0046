use Rattle.std.proofs.Common.{◌≡◌, ◌+◌, ℕ, true, false, None, List, [], length, vec_len, sym, ap, ◌∙◌, arith}
use Rattle.std.proofs.lemmas.Bool.{eqb-true}
use Rattle.std.proofs.lemmas.List.{nil_from_length}
use Rattle.un_frame.specs.Lanes.{packs}
use Rattle.un_frame.specs.declared.params.Lane.TheVariants.{Outward}
use Rattle.un_agg.specs.Held.{Held, claim_of}
use Rattle.un_agg.specs.Block.{Block}
use Rattle.un_agg.specs.Host.{frames_as, held_in, remainder_in}
use Rattle.un_agg.proofs.Adding.{added_alone, added_settled}
use Rattle.un_agg.proofs.HostLemmas.{first_of, idle, left_alone, nothing_packed}
use Rattle.un_agg.proofs.host.HostAgg.add_in.Goals as goal

pub returns-then-not-packs : goal.returns-then-not-packs
returns-then-not-packs c =
    let a = c.self.inside in
    let was : a.block.claim ≡ None = ap (λ (h : Held). h.claim) c.self.view_is ∙ c.requires.none in
    let i = idle a was c.self.invariant in
    let alone : packs a.block.params.class Outward ≡ false = sym c.packs.ensures ∙ c.if-not-packs.true in
    let none = nothing_packed (held_in a).frames (packs a.block.params.class Outward) c.self.invariant.packs_it alone in
    let new = ap (λ (b : Block). record { params = b.params; from = c.args.number + 1; frames = frames_as b.claim b.frames a.remainder.items; claim = b.claim; pending = a.pending }) c.build_one.ensures.block
    ∙ left_alone a (c.args.number + 1) was i none in
    rw (← c.self.view_is) (added_alone Outward (held_in a) _ (claim_of c.args.request) c.args.frame.now c.args.number c.args.serial c.build_one.result alone none
    (sym c.build_one.ensures.claimed) c.build_one.ensures.made new)

pub returns-then-is_empty : goal.returns-then-is_empty
returns-then-is_empty c =
    let a = c.self.inside in
    let was : a.block.claim ≡ None = ap (λ (h : Held). h.claim) c.self.view_is ∙ c.requires.none in
    let i = idle a was c.self.invariant in
    let packed : packs a.block.params.class Outward ≡ true = sym c.packs.ensures ∙ c.if-not-packs.false in
    let len : vec_len a.remainder ≡ 0 = eqb-true (vec_len a.remainder) 0 (sym c.is_empty.ensures ∙ c.if-is_empty.true) in
    let size : vec_len a.remainder ≡ length a.remainder.items = grind (arith, a.remainder.ok) in
    let empty : a.remainder.items ≡ [] = nil_from_length a.remainder.items (omega (arith, len, size)) in
    let none : (held_in a).frames ≡ [] = i.frames_are ∙ ap remainder_in empty in
    let count = ap (λ (fs : List (List ℕ)). length fs) none in
    rw (← c.self.view_is) (added_settled (held_in a) _ c.close_if_full.new.self (claim_of c.args.request) c.args.frame.now c.args.number c.args.serial packed (rw (← c.self.view_is) at c.requires.fits) (λ some. absurd (omega (arith, some, count)))
    (λ some. absurd (omega (arith, some, count))) (first_of a c.begin.new.self (claim_of c.args.request) c.args.frame.now c.args.number none c.begin.ensures) c.close_if_full.result c.close_if_full.ensures)
