-- A whole transfer is opened at its first part.
use Rattle.std.proofs.Common.{◌≡◌, ℕ, ◌-◌, ◌<◌, List, None, arith}
use Rattle.un_frame.specs.declared.params.Class.{Class}
use Rattle.un_frame.specs.declared.params.Params.{Params}
use Rattle.un_frame.specs.Bytes.{AreBytes}
use Rattle.un_frame.specs.Parts.{ReadsAs}
use Rattle.un_frame.specs.Wire.{fault_of}
use Rattle.un_frame.proofs.WireLemmas.{fault_is_exact}
use Rattle.un_req.specs.Request.{Buffer}
use Rattle.un_wire.specs.Cursors.{IsAt, part_count, part_index}
use Rattle.un_wire.specs.declared.cursor.Cursor.{Cursor}
use Rattle.un_wire.proofs.CursorLemmas.{counts_are_parts}
use Rattle.un_endpoint.specs.Ends.{IsWhole}
use Rattle.un_receive.specs.Reading.{IsReading}

-- a transfer that is read has no fault
pub no_fault : (class : Class) (bytes : List ℕ) (count : ℕ) → AreBytes bytes → ReadsAs class bytes count → fault_of class bytes ≡ None
no_fault class bytes count small r = (fault_is_exact class bytes small).1 (r.reads.places, r.commands, r.reads.found)

-- the cursor at the first part is that of the first number
pub opened : (params : Params) (request : Buffer) (cursor : Cursor) → IsWhole params request → IsAt params.class request.bytes cursor → part_index params.class request.bytes cursor ≡ 0
    → IsReading params.class (record { request = request; cursor = cursor; next = request.from })
opened params request cursor w here first =
    let some : request.from < request.to = w.some in
    let count : part_count params.class request.bytes ≡ request.to - request.from = counts_are_parts params.class request.bytes (request.to - request.from) w.reads in
    record { here = here; whole = omega (arith, some, count); index = omega (arith, first); left = some }
