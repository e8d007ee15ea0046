-- Every line of a legal history carries bytes as its kind says, and is licensed at its place.
use Rattle.std.proofs.Common.{◌≡◌, ℕ, ◌-◌, ◌<◌, ◌≤◌, Bool, true, false, List, [], ◌∷◌, ◌++◌, length, sym, subst, arith, if◌then◌else◌, filter, reverse, take, drop, slice_get, Some, zero, suc}
use Rattle.std.proofs.lemmas.Bool.{false≢true}
use Rattle.std.proofs.lemmas.List.{length-drop, length-take-le, reverse-reverse}
use Rattle.std.specs.List.{AllByRecursion}
use Rattle.un_frame.proofs.AllLaws.{laws_of}
use Rattle.un_frame.proofs.LaneLemmas.{same_lane-refl}
use Rattle.un_facts.proofs.Lists.{no_length}
use Rattle.un_frame.specs.declared.params.Lane.{Lane}
use Rattle.un_frame.specs.declared.params.Params.{Params}
use Rattle.un_frame.specs.Wire.{form}
use Rattle.un_journal.specs.declared.lines.Line.{Line}
use Rattle.un_journal.specs.declared.lines.Line.TheVariants.{Refused, Made, Gave, Settled}
use Rattle.un_journal.specs.Log.{HasReason, CarriesItsBytes}
use Rattle.un_journal.specs.Script.{Script, Frame}
use Rattle.un_journal.specs.History.{Entry, History, past, concerns, taken, made, cover}
use Rattle.un_journal.specs.Lookup.{datagrams}
use Rattle.un_journal.specs.Sound.{IsSound}
use Rattle.un_journal.specs.Bytes.{AreDatagrams}
use Rattle.un_journal.specs.Fits.{Legal}
use Rattle.un_journal.specs.Licence.{Licensed, FindsHome, AllLicensed}
use Rattle.un_journal.proofs.Bytes.Transfers.{AreFrames, WireHolds}
use Rattle.un_journal.proofs.Steps.StaySound.{legal_good}
use Rattle.un_journal.proofs.Lists.NewestFirst.{onto, reverse_onto, past_onto}
use Rattle.un_journal.specs.Rules.{Rule, AllRuled, AllLane}
use Rattle.un_journal.proofs.Steps.LineRules.{legal_ruled, ruled_base}
use Rattle.un_journal.proofs.Lanes.PoolSums.{lane_ruled}
use Rattle.un_journal.proofs.Steps.Licences.{legal_licensed}
use Rattle.un_journal.proofs.Bounds.ByteBound.{lane_frames}
use Rattle.un_journal.proofs.Bytes.TransferBytes.{legal_formed, count_datagrams, frames_taken, frames_within}

-- A LINE AT ITS PLACE

split : (before after : History) (e : Entry) → reverse (before ++ e ∷ after) ≡ onto after (e ∷ reverse before)
split before after e = reverse_onto (e ∷ after) before

under_licensed : (script : Script) (lines g : History) → AllLicensed script (onto lines g) → AllLicensed script g
under_licensed script [] g all = all
under_licensed script (x ∷ lines) g all = (under_licensed script lines (x ∷ g) all).1

pub licensed_at : (script : Script) (before after : History) (e : Entry) → Legal script (before ++ e ∷ after) → Licensed script (reverse before) e
licensed_at script before after e legal =
    (under_licensed script after (e ∷ reverse before) (subst (AllLicensed script) (split before after e) (legal_licensed script (before ++ e ∷ after) legal))).0

pub settled_at : (script : Script) (before after : History) (t1 r1 t2 r2 : ℕ) (bytes : List ℕ) → Legal script (before ++ (Settled t1 r1 t2 r2, bytes) ∷ after) → FindsHome script before t1 r1 t2 r2
settled_at script before after t1 r1 t2 r2 bytes legal =
    subst (λ i. FindsHome script i t1 r1 t2 r2) (reverse-reverse before) (licensed_at script before after (Settled t1 r1 t2 r2, bytes) legal)

ruled_at : (script : Script) (before after : History) (e : Entry) → Legal script (before ++ e ∷ after) → Rule script e (reverse before)
ruled_at script before after e legal =
    (ruled_base script after (e ∷ reverse before) (subst (AllRuled script) (split before after e) (legal_ruled script (before ++ e ∷ after) legal))).0

under_all : (P : Entry → Type 0) (lines g : History) → AllByRecursion P (onto lines g) → AllByRecursion P g
under_all P [] g all = all
under_all P (x ∷ lines) g all = (under_all P lines (x ∷ g) all).1

lane_at : (P : Entry → Type 0) (l : Lane) (before after : History) (e : Entry) → concerns l e ≡ true → AllByRecursion P (past l (before ++ e ∷ after)) → P e
lane_at P l before after e mine all = go (concerns l e) mine (subst (AllByRecursion P) (past_onto l before (e ∷ after)) all)
  where
    go : (b : Bool) → b ≡ true → AllByRecursion P (onto (if b then (e ∷ filter (concerns l) after) else filter (concerns l) after) (past l before)) → P e
    go true b w = (under_all P (filter (concerns l) after) (e ∷ past l before) w).0
    go false b w = absurd (false≢true b)

-- BYTES

has_bytes : (params : Params) (serial : ℕ) (frames : List Frame) → 1 ≤ length frames → AreFrames params frames → 0 < length (form params serial frames)
has_bytes params serial [] some good = absurd (omega arith)
has_bytes params serial (frame ∷ rest) some good = (laws_of params.class).some params serial frame rest good.0

abbrev Carries : Entry → Type 0
Carries (Made l k a b, bytes) = 0 < length bytes
Carries (Gave l n, bytes) = 0 < length bytes
Carries (e, bytes) = Unit {0}

-- an accepted frame at a place
frame_at : (params : Params) (ds : List Frame) (n : ℕ) (x : Frame) → AreFrames params ds → slice_get ds n ≡ Some x → 0 < length x
frame_at params [] n x good e = absurd (cc)
frame_at params (d ∷ ds) zero x good e = let same : d ≡ x = cc in let long : 14 ≤ length d = good.0 in subst (λ i. 0 < length i) same (omega arith)
frame_at params (d ∷ ds) (suc n) x good e = frame_at params ds n x good.2 e

made_carries : (script : Script) (l l' : Lane) (k a b : ℕ) (bytes : List ℕ) (g : History) → IsSound ((Made l' k a b, bytes) ∷ g) → AllLane script l ((Made l' k a b, bytes) ∷ g) → 0 < length bytes
made_carries script l l' k a b bytes g sound all =
    let n : length (datagrams script l g) ≡ taken g = count_datagrams script l g in
    let begin : a ≡ cover g = sound.0.1.begins in
    let some : a < b = sound.0.1.is_some in
    let by : b ≤ taken g = sound.0.1.is_taken in
    let d : length (drop (cover g) (datagrams script l g)) ≡ length (datagrams script l g) - cover g = length-drop (cover g) (datagrams script l g) in
    let t : length (take (b - a) (drop (cover g) (datagrams script l g))) ≡ b - a = length-take-le (b - a) (drop (cover g) (datagrams script l g)) (omega arith) in
    subst (λ i. 0 < length i) (sym all.0.rule.is_form)
    (has_bytes script.params (made g) (take (b - a) (drop (cover g) (datagrams script l g))) (omega arith) (frames_taken script.params (b - a) _ (frames_within script.params (cover g) _ (lane_frames script l g all.1))))

all_carry : (script : Script) (l : Lane) (ds : List Frame) (g : History) → AreFrames script.params ds → IsSound g → AllLane script l g → AreDatagrams ds g → AllByRecursion Carries g
all_carry script l ds [] good sound all w = tt
all_carry script l ds ((Made l' k a b, bytes) ∷ g) good sound all w = (made_carries script l l' k a b bytes g sound all, all_carry script l ds g good sound.1 all.1 w)
all_carry script l ds ((Gave l' n, bytes) ∷ g) good sound all w = (frame_at script.params ds n bytes good w.0, all_carry script l ds g good sound.1 all.1 w.1)
all_carry script l ds (e ∷ g) good sound all w = (tt, all_carry script l ds g good sound.1 all.1 w)

lane_carries : (script : Script) (h : History) (l : Lane) → WireHolds script.params → Legal script h → AllByRecursion Carries (past l h)
lane_carries script h l wire legal =
    all_carry script l (datagrams script l (past l h)) (past l h) (lane_frames script l (past l h) all) ((legal_good script h legal).sound l) all (legal_formed script h wire legal l).kept.gave_well
  where
    all : AllLane script l (past l h)
    all = lane_ruled script (reverse h) (legal_ruled script h legal) l

pub spelled_at : (script : Script) (before after : History) (line : Line) (bytes : List ℕ) → WireHolds script.params → Legal script (before ++ (line, bytes) ∷ after) → HasReason line × CarriesItsBytes line bytes
spelled_at script before after (Made l k a b) bytes wire legal = (tt, lane_at Carries l before after (Made l k a b, bytes) (same_lane-refl l) (lane_carries script _ l wire legal))
spelled_at script before after (Gave l n) bytes wire legal = (tt, lane_at Carries l before after (Gave l n, bytes) (same_lane-refl l) (lane_carries script _ l wire legal))
spelled_at script before after (Refused l s why) bytes wire legal =
    let r = ruled_at script before after (Refused l s why, bytes) legal in ((r.of_lane l (same_lane-refl l)).not_taken, no_length bytes r.is_bare)
spelled_at script before after line bytes wire legal = (tt, no_length bytes (ruled_at script before after (line, bytes) legal).is_bare)
