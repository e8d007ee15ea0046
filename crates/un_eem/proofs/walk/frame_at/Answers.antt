use Rattle.std.proofs.Common.{List, ℕ, sym, ap, ◌∙◌}
use Rattle.un_frame.specs.Eem.{Data}
use Rattle.un_eem.proofs.Lending.{data_there}
use Rattle.un_eem.proofs.walk.frame_at.Goals as goal

pub returns : goal.returns
returns c =
    data_there c.args.bytes.now c.args.at c.span_of.result c.requires.within c.requires.sound c.requires.frame c.span_of.ensures.first c.span_of.ensures.size ∙ ap (λ (frame : List ℕ). Data frame) (sym c.of.ensures)
