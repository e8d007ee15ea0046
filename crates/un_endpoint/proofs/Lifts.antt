-- What a builder did, seen at an end that has deferred and done requests besides.
use Rattle.std.proofs.Common.{◌≡◌, ℕ, List, Option, None, Some, ap}
use Rattle.un_req.specs.Request.{Buffer}
use Rattle.un_endpoint.specs.Ends.{Transmitter}
use Rattle.un_endpoint.specs.EndOutcomes.{DropsBuild, IsMade, Offers, Ticks, Uses}
use Rattle.un_endpoint.specs.declared.outcome.Built.{Built}
use Rattle.un_endpoint.specs.declared.outcome.Built.TheVariants as built
use Rattle.un_endpoint.specs.declared.outcome.Ticked.{Ticked}
use Rattle.un_endpoint.specs.declared.outcome.Ticked.TheVariants as ticked

abbrev pub beside : List Buffer → List Buffer → Transmitter → Transmitter
beside deferred done t = record t { deferred = deferred; done = done }

module _ (deferred done : List Buffer) (old new : Transmitter) where
  same : new ≡ old → beside deferred done new ≡ beside deferred done old
  same e = ap (beside deferred done) e

  uses : (number : ℕ) → Uses old new number → Uses (beside deferred done old) (beside deferred done new) number
  uses number (Uses.Claimed claim home) = Uses.Claimed claim home
  uses number (Uses.FromHome claim known home) = Uses.FromHome claim known home

  made : (frames : List (List ℕ)) (from serial : ℕ) (request : Buffer) → IsMade old frames from serial request → IsMade (beside deferred done old) frames from serial request
  made frames from serial request m = record {
    from_is = m.from_is;
    to_is = m.to_is;
    serial_is = m.serial_is;
    bytes_are = m.bytes_are;
    known = m.known;
    sized = m.sized;
    fits = m.fits;
    whole = m.whole;
  }

  pub offers : (frame : List ℕ) (number serial : ℕ) (answer : Built) → Offers old new frame number serial answer → Offers (beside deferred done old) (beside deferred done new) frame number serial answer
  offers frame number serial built.Kept k = record {
    stays_open = k.stays_open;
    host = λ lane. let h = k.host lane in (h.0, uses h.0 h.1, h.2);
    gadget = k.gadget;
    from_is = k.from_is;
    frames_are = k.frames_are;
    pending_is = k.pending_is;
    rest = ap (beside deferred done) k.rest;
  }
  offers frame number serial (built.Made request) m = record {
    span = m.span;
    closed = m.closed;
    uses = uses request.number m.uses;
    made = made _ _ _ request m.made;
    end = m.end;
    left = m.left;
    from_is = m.from_is;
    no_claim = m.no_claim;
    no_pending = m.no_pending;
    rest = ap (beside deferred done) m.rest;
  }
  offers frame number serial built.Busy b = record { needs = b.needs; none = b.none; same = same b.same }

  pub ticks : (serial : ℕ) (answer : Ticked) → Ticks old new serial answer → Ticks (beside deferred done old) (beside deferred done new) serial answer
  ticks serial ticked.Nothing t = record { none = t.none; same = same t.same }
  ticks serial ticked.Waited t = record { some = t.some; pends = t.pends; rest = ap (beside deferred done) t.rest }
  ticks serial ticked.NoRequest t = record { some = t.some; due = t.due; needs = t.needs; none = t.none; same = same t.same }
  ticks serial (ticked.Made request) t = record {
    some = t.some;
    due = t.due;
    uses = uses request.number t.uses;
    made = made _ _ _ request t.made;
    left = t.left;
    from_is = t.from_is;
    no_claim = t.no_claim;
    no_pending = t.no_pending;
    rest = ap (beside deferred done) t.rest;
  }

  pub drops : (answer : Option (ℕ × ℕ)) → DropsBuild old new answer → DropsBuild (beside deferred done old) (beside deferred done new) answer
  drops None d = (d.0, same d.1)
  drops (Some span) d = record { some = d.some; from_is = d.from_is; to_is = d.to_is; rest = ap (beside deferred done) d.rest }
