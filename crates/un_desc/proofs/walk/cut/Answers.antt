use Rattle.std.proofs.Common.{refl}
use Rattle.un_desc.proofs.WalkLemmas.{front}
use Rattle.un_desc.proofs.walk.cut.Goals as goal

pub describe-descriptor-requires-clause-two : goal.describe-descriptor-requires-clause-two
describe-descriptor-requires-clause-two c = (front c.args.bytes.now _ refl c.requires.walked c.requires.some).two

pub describe-descriptor-requires-clause-whole : goal.describe-descriptor-requires-clause-whole
describe-descriptor-requires-clause-whole c = (front c.args.bytes.now _ refl c.requires.walked c.requires.some).least

pub split_at-requires : goal.split_at-requires
split_at-requires c = (front c.args.bytes.now _ refl c.requires.walked c.requires.some).inside

pub returns-clause-walked : goal.returns-clause-walked
returns-clause-walked c = (front c.args.bytes.now _ c.split_at.ensures.back c.requires.walked c.requires.some).walked

pub returns-clause-cut : goal.returns-clause-cut
returns-clause-cut c = rw c.describe-descriptor.ensures (front c.args.bytes.now _ c.split_at.ensures.back c.requires.walked c.requires.some).all
