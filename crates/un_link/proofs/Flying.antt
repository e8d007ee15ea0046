-- Flights stay while other lines are written.
use Rattle.std.proofs.Common.{◌≡◌, ℕ, ◌<◌, ◌≤◌, List, [], ◌∷◌, Option, Some, None, refl, ap, ◌∙◌, subst, arith}
use Rattle.std.proofs.lemmas.Bool.{ne_eqb}
use Rattle.std.specs.List.{AllByRecursion}
use Rattle.un_frame.specs.declared.params.Lane.{Lane}
use Rattle.un_endpoint.specs.declared.record.FlightRecord.{FlightRecord}
use Rattle.un_journal.specs.declared.lines.Line.TheVariants.{Made}
use Rattle.un_journal.specs.History.{Entry, History, made, made_bytes, flies}
use Rattle.un_journal.specs.Sound.{IsSound}
use Rattle.un_journal.proofs.ForLink.{onto, sound_below}
use Rattle.un_lane.specs.Way.{Way}
use Rattle.un_lane.specs.Stands.{Stands, flight_serial}
use Rattle.un_lane.proofs.Making.{those_below}
use Rattle.un_link.specs.Link.{lane_flights}

made_more : (e : Entry) (g : History) → made g ≤ made (e ∷ g)
made_more (Made l k a b, bytes) g = omega arith
made_more (e, bytes) g = omega arith

bytes_one : (e : Entry) (g : History) (k : ℕ) → IsSound (e ∷ g) → k < made g → made_bytes (e ∷ g) k ≡ made_bytes g k
bytes_one (Made l j a b, bytes) g k s low = let e : j ≡ made g = s.0.0 in rw (ne_eqb j k (λ same. absurd (omega (arith, same)))) refl
bytes_one (e, bytes) g k s low = refl

pub bytes_onto : (lines g : History) (k : ℕ) → IsSound (onto lines g) → k < made g → made_bytes (onto lines g) k ≡ made_bytes g k
bytes_onto [] g k s low = refl
bytes_onto (e ∷ lines) g k s low =
    let more : made g ≤ made (e ∷ g) = made_more e g in
    bytes_onto lines (e ∷ g) k s (omega arith) ∙ bytes_one e g k (sound_below lines (e ∷ g) s) low

-- a transfer that flies was made
pub flight_made : (way : Way) (g : History) (f : FlightRecord) → Stands way g → way.bus.flight ≡ Some f → f.serial < made g
flight_made way g f w e = (subst (λ ks. Below ks) (w.queues.fly ∙ ap flight_serial e) (those_below (flies g) (made g))).0
  where
    Below : List ℕ → Type 0
    Below ks = AllByRecursion (λ k. k < made g) ks

pub flight_kept : (lane : Lane) (old : Way) (lines g : History) (flight : Option FlightRecord) → Stands old g → flight ≡ old.bus.flight → IsSound (onto lines g)
    → lane_flights lane (onto lines g) flight ≡ lane_flights lane g old.bus.flight
flight_kept lane old lines g flight w e s = ap (lane_flights lane (onto lines g)) e ∙ go old.bus.flight refl
  where
    go : (o : Option FlightRecord) → old.bus.flight ≡ o → lane_flights lane (onto lines g) o ≡ lane_flights lane g o
    go None q = refl
    go (Some f) q = let b : made_bytes (onto lines g) f.serial ≡ made_bytes g f.serial = bytes_onto lines g f.serial s (flight_made old g f w q) in rw b refl
