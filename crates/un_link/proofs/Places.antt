-- Where a datagram stands.
use Rattle.std.proofs.Common.{◌≡◌, ℕ, zero, suc, ◌+◌, ◌-◌, ◌<◌, ◌≤◌, Bool, true, false, ◌&&◌, ◌||◌, ◌==◌, List, [], ◌∷◌, ◌++◌, take, drop, filter, slice_get, Option, Some, None, refl, sym, ap, ◌∙◌, subst, arith, if◌then◌else◌}
use Rattle.std.specs.Option.{option_map}
use Rattle.std.proofs.lemmas.Bool.{false≢true}
use Rattle.std.proofs.lemmas.List.{take-append-drop}
use Rattle.un_frame.proofs.LaneLemmas.{same_lane-refl, same_lane-is}
use Rattle.un_facts.specs.Numbers.{one_if}
use Rattle.un_frame.specs.declared.params.Lane.{Lane}
use Rattle.un_frame.specs.Lanes.{same_lane}
use Rattle.un_journal.specs.declared.census.Census.{Census}
use Rattle.un_journal.specs.declared.lines.Line.{Line}
use Rattle.un_journal.specs.declared.lines.Line.TheVariants.{Gave}
use Rattle.un_journal.specs.Script.{Script}
use Rattle.un_journal.specs.History.{Entry, History, past, concerns, gave, taken}
use Rattle.un_journal.specs.Lookup.{phase_of}
use Rattle.un_journal.specs.Census.{census, total, nowhere, NamesPlace}
use Rattle.un_journal.specs.Fits.{Legal}
use Rattle.un_journal.proofs.Theorems.{adds_up, names_place, is_nowhere, legal_good}
use Rattle.un_journal.proofs.ForLink.{onto, past_onto, own_past, past_more}
use Rattle.un_link.specs.Counts.{gives, in_path}

-- A GAVE LINE

or_yes : (a : Bool) → (a || true) ≡ true
or_yes true = refl
or_yes false = refl

gave_one : (e : Entry) (g : History) (n : ℕ) → gave g n ≡ true → gave (e ∷ g) n ≡ true
gave_one (Gave l m, bytes) g n y = ap (λ b. (m == n) || b) y ∙ or_yes (m == n)
gave_one (e, bytes) g n y = y

gave_onto : (lines g : History) (n : ℕ) → gave g n ≡ true → gave (onto lines g) n ≡ true
gave_onto [] g n y = y
gave_onto (e ∷ lines) g n y = gave_onto lines (e ∷ g) n (gave_one e g n y)

take_one : (n : ℕ) (xs : History) (x : Entry) → slice_get xs n ≡ Some x → take (n + 1) xs ≡ take n xs ++ x ∷ []
take_one n [] x e = absurd (cc)
take_one zero (y ∷ ys) x e = let same : y ≡ x = cc in ap (λ i. i ∷ []) same
take_one (suc n) (y ∷ ys) x e = ap (λ m. take m (y ∷ ys)) (more n) ∙ ap (λ i. y ∷ i) (take_one n ys x e)
  where
    more : (n : ℕ) → suc n + 1 ≡ suc (n + 1)
    more n = omega arith

-- the line with an index, with its bytes
pub record IsAt (h : History) (i : ℕ) (line : Line) : Type 0 where
  pub bytes : List ℕ
  pub at : slice_get h i ≡ Some (line, bytes)

pub line_at : (h : History) (i : ℕ) (line : Line) → option_map (λ (e : Entry). e.0) (slice_get h i) ≡ Some line → IsAt h i line
line_at h i line e = go (slice_get h i) refl e
  where
    go : (o : Option Entry) → slice_get h i ≡ o → option_map (λ (x : Entry). x.0) o ≡ Some line → IsAt h i line
    go None q w = absurd (cc)
    go (Some (l, bytes)) q w = let same : l ≡ line = cc in record { bytes = bytes; at = q ∙ ap (λ j. Some (j, bytes)) same }

pub gave_at : (lane : Lane) (h : History) (i n : ℕ) (line : Line) → IsAt h i line → gives lane n line ≡ true → gave (past lane h) n ≡ true
gave_at lane h i n (Gave l m) w y = here (same_lane-is lane l (and_first (same_lane lane l) (m == n) y)) (and_second (same_lane lane l) (m == n) y)
  where
    and_first : (a b : Bool) → (a && b) ≡ true → a ≡ true
    and_first true b e = refl
    and_first false b e = absurd (false≢true e)

    and_second : (a b : Bool) → (a && b) ≡ true → b ≡ true
    and_second true b e = e
    and_second false b e = absurd (false≢true e)

    here : lane ≡ l → (m == n) ≡ true → gave (past lane h) n ≡ true
    here a b =
        let front : past lane (take (i + 1) h) ≡ (Gave l m, w.bytes) ∷ past lane (take i h) = ap (past lane) (take_one i h (Gave l m, w.bytes) w.at) ∙ own_past (take i h) (Gave l m, w.bytes) lane (ap (λ x. same_lane lane x) (sym a) ∙ same_lane-refl lane) in
        let at : gave (past lane (take (i + 1) h)) n ≡ true = ap (λ g. gave g n) front ∙ ap (λ x. x || gave (past lane (take i h)) n) b in
        ap (λ x. gave (past lane x) n) (sym (take-append-drop (i + 1) h)) ∙ (ap (λ g. gave g n) (past_onto lane (take (i + 1) h) (drop (i + 1) h)) ∙ gave_onto (filter (concerns lane) (drop (i + 1) h)) (past lane (take (i + 1) h)) n at)
gave_at lane h i n line w y = absurd (false≢true y)

both : (n : ℕ) (b : Bool) (x y : History) → gave x n ≡ false → gave y n ≡ false → gave (if b then x else y) n ≡ false
both n true x y p q = p
both n false x y p q = q

gave_step : (lane : Lane) (n : ℕ) (line : Line) (bytes : List ℕ) (g : History) → gave g n ≡ false → gives lane n line ≡ false → gave (if concerns lane (line, bytes) then ((line, bytes) ∷ g) else g) n ≡ false
gave_step lane n (Gave l m) bytes g none other = go (same_lane lane l) (m == n) refl other
  where
    go : (a b : Bool) → (m == n) ≡ b → (a && b) ≡ false → gave (if a then ((Gave l m, bytes) ∷ g) else g) n ≡ false
    go false b q e = none
    go true b q e = ap (λ x. x || gave g n) (q ∙ e) ∙ none
gave_step lane n line bytes g none other = both n (concerns lane (line, bytes)) ((line, bytes) ∷ g) g none none

pub gave_not : (lane : Lane) (h : History) (i n : ℕ) (line : Line) → IsAt h i line → gave (past lane (take i h)) n ≡ false → gives lane n line ≡ false → gave (past lane (take (i + 1) h)) n ≡ false
gave_not lane h i n line w none other =
    ap (λ x. gave (past lane x) n) (take_one i h (line, w.bytes) w.at) ∙ (ap (λ g. gave g n) (past_more lane (take i h) (line, w.bytes)) ∙ gave_step lane n line w.bytes (past lane (take i h)) none other)

-- THE CENSUS

pub record IsCounted (script : Script) (h : History) (lane : Lane) (n : ℕ) (c : Census) : Type 0 where
  pub names : NamesPlace c (past lane h) n
  pub adds : total c ≡ 1

counted : (script : Script) (h : History) (lane : Lane) (n : ℕ) → Legal script h → n < taken (past lane h) → IsCounted script h lane n (census script h lane n)
counted script h lane n legal low = record {
  names = names_place script.params (phase_of script h) lane (past lane h) ((legal_good script h legal).sound lane) n low;
  adds = adds_up script.params (phase_of script h) lane (past lane h) ((legal_good script h legal).sound lane) n low;
}

given_lost : (c : Census) (given lost : ℕ) → c.given ≡ given → c.lost ≡ lost → record c { given = given; lost = lost } ≡ c
given_lost c given lost g l = ap (λ (i : ℕ). record c { given = i; lost = lost }) (sym g) ∙ ap (λ (i : ℕ). record c { lost = i }) (sym l)

-- what stands in the path or was given is at most one
pub in_path_few : (script : Script) (h : History) (lane : Lane) (n given : ℕ) (c : Census) → Legal script h → n < taken (past lane h) → c ≡ record (census script h lane n) { given = 0; lost = 0 } → given ≡ one_if (gave (past lane h) n) → in_path c + given ≤ 1
in_path_few script h lane n given c legal low e g =
    let w = counted script h lane n legal low in
    let t : total (census script h lane n) ≡ 1 = w.adds in
    let p : (census script h lane n).given ≡ one_if (gave (past lane h) n) = w.names.is_peer in
    let s : in_path c ≡ in_path (census script h lane n) = ap in_path e in
    omega arith

pub filled_is : (script : Script) (h : History) (lane : Lane) (n given : ℕ) (c : Census) → Legal script h → n < taken (past lane h) → c ≡ record (census script h lane n) { given = 0; lost = 0 } → given ≡ one_if (gave (past lane h) n)
    → record c { given = given; lost = 1 - (in_path c + given) } ≡ census script h lane n
filled_is script h lane n given c legal low e g =
    let w = counted script h lane n legal low in
    let t : total (census script h lane n) ≡ 1 = w.adds in
    let p : (census script h lane n).given ≡ one_if (gave (past lane h) n) = w.names.is_peer in
    let s : in_path c ≡ in_path (census script h lane n) = ap in_path e in
    let l : (census script h lane n).lost ≡ 1 - (in_path c + given) = omega arith in
    ap (λ (i : Census). record i { given = given; lost = 1 - (in_path c + given) }) e ∙ given_lost (census script h lane n) given (1 - (in_path c + given)) (p ∙ sym g) l

pub census_adds : (script : Script) (h : History) (lane : Lane) (n : ℕ) (c : Census) → Legal script h → c ≡ census script h lane n → n < taken (past lane h) → total c ≡ 1
census_adds script h lane n c legal e low = ap total e ∙ (counted script h lane n legal low).adds

pub census_names : (script : Script) (h : History) (lane : Lane) (n : ℕ) (c : Census) → Legal script h → c ≡ census script h lane n → n < taken (past lane h) → NamesPlace c (past lane h) n
census_names script h lane n c legal e low = subst (λ i. NamesPlace i (past lane h) n) (sym e) (counted script h lane n legal low).names

pub census_none : (script : Script) (h : History) (lane : Lane) (n : ℕ) → Legal script h → taken (past lane h) ≤ n → census script h lane n ≡ nowhere
census_none script h lane n legal high = is_nowhere script.params (phase_of script h) lane (past lane h) ((legal_good script h legal).sound lane) n high

pub past_census : (script : Script) (h : History) (lane : Lane) (n : ℕ) (c : Census) → Legal script h → c ≡ record (census script h lane n) { given = 0; lost = 0 } → taken (past lane h) ≤ n → c ≡ nowhere
past_census script h lane n c legal e high = e ∙ ap (λ (i : Census). record i { given = 0; lost = 0 }) (census_none script h lane n legal high)
