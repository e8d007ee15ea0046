use Rattle.std.proofs.Common.{◌≡◌, ◌+◌, ◌-◌, ◌++◌, take, drop, arith, ap, ◌∙◌, refl}
use Rattle.hex.specs.Hex.{encode_lower}
use Rattle.un_text.proofs.Putting.{puts_none}
use Rattle.un_text.proofs.Hexes.{encode_none, more_hex}
use Rattle.un_text.proofs.page.Page.put_hex.Goals as goal

pub loop-at-init : goal.loop-at-init
loop-at-init g c = record { within = omega arith; put = rw encode_none (puts_none _ _ _) }

pub loop-at-preserved : goal.loop-at-preserved
loop-at-preserved g c =
    let at = c.loop-at.at in
    let bytes = c.args.bytes.now in
    let piece : take (at + c.min-count.result - at) (drop at bytes) ≡ take c.min-count.result (drop at bytes) = ap (λ k. take k (drop at bytes)) (omega arith) in
    record {
      within = omega arith;
      put = more_hex _ _ _ _ _ _ _ _ c.reserve.new.self _ bytes at c.min-count.result c.loop-at.invariant.put c.reserve.ensures.put refl
          (c.push_hex.ensures ∙ ap (λ t. c.reserve.new.self.pending ++ encode_lower t) piece);
    }
