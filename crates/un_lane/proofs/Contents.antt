-- What a transfer that is read holds: each of its parts has 14 bytes at least, and so has the transfer.
use Rattle.std.proofs.Common.{◌≡◌, ℕ, zero, suc, ◌+◌, ◌-◌, ◌<◌, ◌≤◌, List, [], ◌∷◌, length, drop, map, slice_get, unwrap_or, refl, sym, ap, ◌∙◌, subst, arith, length-take, length-drop}
use Rattle.un_frame.specs.declared.params.Class.{Class}
use Rattle.un_frame.specs.Bytes.{Place, slice_at}
use Rattle.un_frame.specs.Parts.{ReadsAs, datagram_of, places_as}
use Rattle.un_frame.proofs.AllLaws.{laws_of}
use Rattle.un_frame.proofs.ClassLaws.{AreParts, IsPart}

part_long : (bytes : List ℕ) (place : Place) → IsPart (length bytes) place → 14 ≤ length (slice_at bytes place)
part_long bytes place p =
    let d : length (drop place.at bytes) ≡ length bytes - place.at = length-drop place.at bytes in
    let least : 14 ≤ place.size = p.least in
    let inside : place.at + place.size ≤ length bytes = p.inside in
    omega (arith, length-take place.size (drop place.at bytes), d)

get_part : (bytes : List ℕ) (places : List Place) (i : ℕ) → AreParts (length bytes) places → i < length places → 14 ≤ length (unwrap_or (slice_get (map (slice_at bytes) places) i) [])
get_part bytes [] i a h = absurd (omega arith)
get_part bytes (place ∷ places) zero a h = part_long bytes place a.0
get_part bytes (place ∷ places) (suc i) a h = get_part bytes places i a.1 (omega arith)

count_places : (bytes : List ℕ) (places : List Place) → length (map (slice_at bytes) places) ≡ length places
count_places bytes [] = refl
count_places bytes (place ∷ places) = let e : length (map (slice_at bytes) places) ≡ length places = count_places bytes places in omega arith

pub datagram_least : (class : Class) (bytes : List ℕ) (count i : ℕ) → ReadsAs class bytes count → i < count → 14 ≤ length (datagram_of class bytes i)
unfolding datagram_of
datagram_least class bytes count i r h =
    let places : places_as class bytes ≡ r.reads.places = (laws_of class).parts bytes r.reads.places r.commands r.reads.found in
    let n : length r.frames ≡ length r.reads.places = ap length r.reads.sliced ∙ count_places bytes r.reads.places in
    let c : length r.frames ≡ count = r.counted in
    subst (λ ps. 14 ≤ length (unwrap_or (slice_get (map (slice_at bytes) ps) i) [])) (sym places)
    (get_part bytes r.reads.places i ((laws_of class).inside bytes r.reads.places r.commands r.reads.found) (omega arith))

first_inside : (size : ℕ) (places : List Place) → AreParts size places → 0 < length places → 14 ≤ size
first_inside size [] a h = absurd (omega arith)
first_inside size (place ∷ places) a h =
    let least : 14 ≤ place.size = a.0.least in
    let inside : place.at + place.size ≤ size = a.0.inside in omega arith

pub transfer_least : (class : Class) (bytes : List ℕ) (count : ℕ) → ReadsAs class bytes count → 0 < count → 14 ≤ length bytes
transfer_least class bytes count r h =
    let n : length r.frames ≡ length r.reads.places = ap length r.reads.sliced ∙ count_places bytes r.reads.places in
    let c : length r.frames ≡ count = r.counted in
    first_inside (length bytes) r.reads.places ((laws_of class).inside bytes r.reads.places r.commands r.reads.found) (omega arith)
