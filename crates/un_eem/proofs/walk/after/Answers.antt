use Rattle.un_eem.proofs.Lending.{sound_next}
use Rattle.un_eem.proofs.walk.after.Goals as goal

pub returns-clause-sound : goal.returns-clause-sound
returns-clause-sound c = sound_next c.args.bytes.now c.args.at c.header_of.result c.requires.within c.requires.sound c.header_of.ensures c.packet_size.result c.packet_size.ensures.size
