-- Tests on what is built: whether a block is open, and how long it waits.
use Rattle.std.proofs.Common.{◌≡◌, ℕ, ◌+◌, ◌-◌, ◌<◌, ◌≤◌, min, Bool, true, false, not, ◌&&◌, ◌==◌, nat_lt, nat_le, List, [], ◌∷◌, ◌++◌, length, refl, sym, ap, ◌∙◌, subst, arith, inl, inr, if◌then◌else◌}
use Rattle.std.proofs.lemmas.Bool.{cases_lt, lt-ltb, le-leb, lt-leb, eq-eqb, ne_eqb, and_right}
use Rattle.un_facts.specs.Lists.{is_empty}
use Rattle.un_frame.specs.declared.params.Lane.{Lane}
use Rattle.un_frame.specs.declared.params.Lane.TheVariants.{Outward, Inward}
use Rattle.un_frame.specs.declared.params.Params.{Params}
use Rattle.un_journal.specs.Script.{Frame}
use Rattle.un_journal.specs.History.{History, taken, cover, took_last}
use Rattle.un_journal.specs.Lookup.{block_open}
use Rattle.un_check.specs.Building.{Building, open_in}

-- a number of frames, and whether there are none
pub built_some : (t c : ℕ) (frames : List Frame) → t ≡ c + length frames → nat_lt 0 (t - c) ≡ not (is_empty frames)
built_some t c [] e = ap (nat_lt 0) (let none : t - c ≡ 0 = omega arith in none)
built_some t c (x ∷ frames) e = lt-ltb 0 (t - c) (let some : t ≡ c + (length frames + 1) = e ∙ ap (λ n. c + n) (let one : length (x ∷ frames) ≡ length frames + 1 = omega arith in one) in omega arith)

pub built_none : (t c : ℕ) (frames : List Frame) → t ≡ c + length frames → (t - c == 0) ≡ is_empty frames
built_none t c [] e = ap (λ n. n == 0) (let none : t - c ≡ 0 = omega arith in none)
built_none t c (x ∷ frames) e = ne_eqb (t - c) 0 (λ none. let some : t ≡ c + (length frames + 1) = e ∙ ap (λ n. c + n) (let one : length (x ∷ frames) ≡ length frames + 1 = omega arith in one) in omega arith)

pub push_some : (frames : List Frame) (frame : Frame) → is_empty (frames ++ frame ∷ []) ≡ false
push_some [] frame = refl
push_some (x ∷ frames) frame = refl

-- whether a block is open, by what is kept
pub open_is : (params : Params) (lane : Lane) (g : History) (b : Building) → b.params ≡ params → taken g ≡ cover g + length b.frames → took_last g ≡ b.is_fresh → block_open params lane g ≡ open_in lane b
open_is params Outward g b p e f = rw (p, built_some (taken g) (cover g) b.frames e, f) refl
open_is params Inward g b p e f = rw (p, built_some (taken g) (cover g) b.frames e) refl

-- THE TICKS THAT AN OPEN OUTWARD BLOCK WAITS

-- so many ticks, less those waited after the second datagram was accepted, or the first
abbrev pub left_to_wait : Bool → ℕ → ℕ → ℕ → (ℕ → ℕ) → ℕ
left_to_wait is_open ticks t c waited = if is_open then ticks - waited (min (t - 1) (c + 1)) else 0

-- after one more accepted datagram
abbrev pub waited_with : ℕ → (ℕ → ℕ) → ℕ → ℕ
waited_with t waited m = if t == m then 0 else waited m

module _ (ticks t c n : ℕ) (waited : ℕ → ℕ) (e : t ≡ c + n) where
  waits_anew : n + 1 ≤ 2 → ticks - waited_with t waited (min (t + 1 - 1) (c + 1)) ≡ ticks
  waits_anew low = let last : t ≡ min (t + 1 - 1) (c + 1) = omega arith in rw (eq-eqb t (min (t + 1 - 1) (c + 1)) last) (omega arith)

  waits_on : 2 < n + 1 → ticks - waited_with t waited (min (t + 1 - 1) (c + 1)) ≡ ticks - waited (min (t - 1) (c + 1))
  waits_on high =
      let later : t ≡ min (t + 1 - 1) (c + 1) → ⊥ = λ i. omega arith in
      let second : min (t + 1 - 1) (c + 1) ≡ min (t - 1) (c + 1) = omega arith in
      rw (ne_eqb t (min (t + 1 - 1) (c + 1)) later) (ap (λ m. ticks - waited m) second)

-- a block of two frames or more is open
was_open : (fresh : Bool) (ticks t c n p : ℕ) (waited : ℕ → ℕ) → t ≡ c + n → (fresh ≡ false → n ≤ 1) → 2 < n + 1 → left_to_wait (nat_lt 0 (t - c) && fresh) ticks t c waited ≡ p → ticks - waited (min (t - 1) (c + 1)) ≡ p
was_open true ticks t c n p waited e r high k = subst (λ x. left_to_wait (x && true) ticks t c waited ≡ p) (lt-ltb 0 (t - c) (omega arith)) k
was_open false ticks t c n p waited e r high k = absurd (let low : n ≤ 1 = r refl in omega arith)

-- the first and the second frame of a block let it wait anew
pub waits_with : (packed fresh : Bool) (ticks t c n p : ℕ) (waited : ℕ → ℕ) → t ≡ c + n → (fresh ≡ false → n ≤ 1) → left_to_wait (packed && nat_lt 0 (t - c) && fresh) ticks t c waited ≡ p
    → left_to_wait (packed && nat_lt 0 (t + 1 - c) && true) ticks (t + 1) c (waited_with t waited) ≡ (if not packed then 0 else (if nat_le (n + 1) 2 then ticks else p))
waits_with false fresh ticks t c n p waited e r k = refl
waits_with true fresh ticks t c n p waited e r k = rw (lt-ltb 0 (t + 1 - c) (omega arith)) (elim (cases_lt 2 (n + 1)) [
  | inr low ↦ waits_anew ticks t c n waited e low ∙ sym (ap (λ b. if b then ticks else p) (le-leb (n + 1) 2 low))
  | inl high ↦ waits_on ticks t c n waited e high ∙ was_open fresh ticks t c n p waited e r high k ∙ sym (ap (λ b. if b then ticks else p) (lt-leb (n + 1) 2 high))
])

-- a waited tick
pub waits_less : (is_open : Bool) (ticks p w : ℕ) → (if is_open then ticks - w else 0) ≡ p → (if is_open then ticks - (w + 1) else 0) ≡ p - 1
waits_less true ticks p w e = let k : ticks - w ≡ p = e in omega arith
waits_less false ticks p w e = let k : 0 ≡ p = e in omega arith

-- no open block waits for nothing
pub no_wait : (x y : Bool) (n : ℕ) → y ≡ false → (if x && y then n else 0) ≡ 0
no_wait x y n e = ap (λ b. if b then n else 0) (and_right x y e)
