-- What the layers above know of single frames: one fits an empty transfer, a transfer is short, what is taken has a
-- length, and an open transfer grows.
use Rattle.std.proofs.Common.{◌≡◌, ℕ, Bool, true, false, nat_lt, if◌then◌else◌, List, [], ◌∷◌, ◌++◌, length, map, refl, ap, ◌∙◌, arith}
use Rattle.std.proofs.lemmas.Bool.Decides.{nat_tests}
use Rattle.un_frame.specs.declared.kinds.Verdict.{Verdict}
use Rattle.un_frame.specs.declared.kinds.Verdict.TheVariants.{Take, Short, Long}
use Rattle.un_frame.specs.Laws.{SegmentFits, FormIsShort, TakenHasLength, OpenBegins, OpenGrows}
use Rattle.un_frame.proofs.AllLaws.{laws_of}

pub segment_fits : SegmentFits
segment_fits p size range agree low = (laws_of p.class).segment p size (let least = range.alignment.0 in omega (arith, least)) agree low

pub form_is_short : FormIsShort
form_is_short p serial frames range some = (laws_of p.class).short p serial frames range some

-- what is taken passed the tests of length
taken : (short long : Bool) (rest : Verdict) → (if short then Short else (if long then Long else rest)) ≡ Take → (short ≡ false) × (long ≡ false)
taken true long rest h = cc
taken false true rest h = cc
taken false false rest h = (refl, refl)

pub taken_has_length : TakenHasLength
taken_has_length p lane frame h =
    let t = taken (nat_lt (length frame) 14) (nat_lt p.segment (length frame)) _ h in
    let short = t.0 in
    let long = t.1 in
    (grind (arith, nat_tests, short), grind (arith, nat_tests, long))

pub open_begins : OpenBegins
open_begins p = record { lengths = refl; so_far = refl }

pub map_length_more : (frames : List (List ℕ)) (frame : List ℕ) → map length (frames ++ frame ∷ []) ≡ map length frames ++ length frame ∷ []
map_length_more [] frame = refl
map_length_more (x ∷ xs) frame = ap (λ (ns : List ℕ). length x ∷ ns) (map_length_more xs frame)

pub open_grows : OpenGrows
open_grows p sizes bytes frames frame o = record { lengths = map_length_more frames frame ∙ ap (λ (ns : List ℕ). ns ++ length frame ∷ []) o.lengths; so_far = refl }
