use Rattle.std.proofs.Common.{refl}
use Rattle.un_eem.proofs.Lending.{two_left}
use Rattle.un_eem.proofs.walk.header_of.Goals as goal

pub header_at-requires : goal.header_at-requires
header_at-requires c = two_left c.args.bytes.now c.args.at _ c.requires.within c.requires.sound refl
