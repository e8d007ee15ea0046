use Rattle.un_wire.specs.Codings.{coding_of}
use Rattle.un_wire.proofs.CursorLemmas.{moved_at, moved_one, says_left, says_ended}
use Rattle.un_wire.proofs.codec.Codec.advance.Goals as goal

pub part-requires : goal.part-requires
part-requires c = c.next.ensures.sound

pub returns-in-Some-clause-at : goal.returns-in-Some-clause-at
returns-in-Some-clause-at c = moved_at (coding_of c.args.self.now).params.class c.args.bytes.now c.args.cursor.now c.next.result c.requires.at c.next.ensures.one c.next.ensures.class c.next.ensures.sound c.requires.some

pub returns-in-Some-clause-one : goal.returns-in-Some-clause-one
returns-in-Some-clause-one c = moved_one (coding_of c.args.self.now).params.class c.args.bytes.now c.args.cursor.now c.next.result c.requires.at c.next.ensures.one c.next.ensures.class c.next.ensures.sound c.requires.some

pub returns-in-Some-clause-last : goal.returns-in-Some-clause-last
returns-in-Some-clause-last c =
    let class = (coding_of c.args.self.now).params.class in
    let at = moved_at class c.args.bytes.now c.args.cursor.now c.next.result c.requires.at c.next.ensures.one c.next.ensures.class c.next.ensures.sound c.requires.some in
    says_left class c.args.bytes.now c.next.result at c.in-Some.field-0.now c.in-Some.ensures.part.0 c.in-Some.ensures.part.1

pub returns-in-None-clause-at : goal.returns-in-None-clause-at
returns-in-None-clause-at c = moved_at (coding_of c.args.self.now).params.class c.args.bytes.now c.args.cursor.now c.next.result c.requires.at c.next.ensures.one c.next.ensures.class c.next.ensures.sound c.requires.some

pub returns-in-None-clause-one : goal.returns-in-None-clause-one
returns-in-None-clause-one c = moved_one (coding_of c.args.self.now).params.class c.args.bytes.now c.args.cursor.now c.next.result c.requires.at c.next.ensures.one c.next.ensures.class c.next.ensures.sound c.requires.some

pub returns-in-None-clause-last : goal.returns-in-None-clause-last
returns-in-None-clause-last c =
    let class = (coding_of c.args.self.now).params.class in
    let at = moved_at class c.args.bytes.now c.args.cursor.now c.next.result c.requires.at c.next.ensures.one c.next.ensures.class c.next.ensures.sound c.requires.some in
    says_ended class c.args.bytes.now c.next.result at c.in-None.ensures.end
