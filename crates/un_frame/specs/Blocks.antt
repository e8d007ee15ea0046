-- What a link's parameters say of its blocks: where its writers put things in one, and when its two ends agree on that.
use Rattle.std.specs.Prelude.{◌+◌, ◌<◌, ◌≤◌, [], ◌∷◌, IsTrue}
use Rattle.un_facts.specs.Lists.{is_one_of}
use Rattle.un_frame.specs.declared.params.Params.{Params}
use Rattle.un_frame.specs.Ntb.{Format}
use Rattle.un_frame.specs.NtbForm.{Layout, datagram_place, closed_size}

-- where the link's writers put things in a block
abbrev pub layout_of : Params → Layout
layout_of p = record { divisor = p.divisor; remainder = p.remainder; alignment = p.alignment }

-- The two ends agree on how blocks are laid out, and one frame of the largest size fits a block: the divisor and the
-- alignment are powers of two, and the remainder is below the divisor (NCM 1.0, 6.2.1, table 6-3; that the last is
-- refused rather than mended is this project's own).
pub record BlocksAgree (f : Format) (p : Params) : Type 0 where
  pub divisor : IsTrue (is_one_of p.divisor (1 ∷ 2 ∷ 4 ∷ 8 ∷ 16 ∷ 32 ∷ 64 ∷ []))
  pub remainder : p.remainder < p.divisor
  pub alignment : IsTrue (is_one_of p.alignment (4 ∷ 8 ∷ 16 ∷ 32 ∷ 64 ∷ []))
  pub largest : closed_size f p.alignment (datagram_place (layout_of p) f.header + p.segment) 1 ≤ p.block
