use Rattle.std.proofs.Common.{◌≡◌, ℕ, ◌<◌, List, ◌∷◌}
use Rattle.std.specs.Borrow.{Bor}
use Rattle.un_frame.specs.Parts.{datagram_of}
use Rattle.un_wire.specs.Codings.{coding_of}
use Rattle.un_wire.specs.Cursors.{part_count, part_index}
use Rattle.un_wire.specs.Places.{parts_at}
use Rattle.un_wire.proofs.CursorLemmas.{if_some, if_none, lent, inside, ended}
use Rattle.un_wire.proofs.codec.Codec.part_at.Goals as goal

pub returns-clause-part : goal.returns-clause-part
returns-clause-part c =
    let class = (coding_of c.args.self.now).params.class in
    let bytes = c.args.bytes.now in
    let cursor = c.args.cursor.now in
    if_some c.part.result
    (λ (part : Bor (List ℕ)). (rest : List (List ℕ)) × (parts_at bytes cursor.place ≡ part.now ∷ rest))
    (λ (part : Bor (List ℕ)). part.now ≡ datagram_of class bytes (part_index class bytes cursor))
    (λ part left. lent class bytes cursor c.requires part.now left.0 left.1) c.part.ensures.part

pub returns-clause-some : goal.returns-clause-some
returns-clause-some c =
    let class = (coding_of c.args.self.now).params.class in
    let bytes = c.args.bytes.now in
    let cursor = c.args.cursor.now in
    if_some c.part.result
    (λ (part : Bor (List ℕ)). (rest : List (List ℕ)) × (parts_at bytes cursor.place ≡ part.now ∷ rest))
    (λ (part : Bor (List ℕ)). part_index class bytes cursor < part_count class bytes)
    (λ part left. inside class bytes cursor c.requires part.now left.0 left.1) c.part.ensures.part

pub returns-clause-none : goal.returns-clause-none
returns-clause-none c =
    if_none c.part.result _ _ (λ none. ended (coding_of c.args.self.now).params.class c.args.bytes.now c.args.cursor.now c.requires none) c.part.ensures.end
