-- Tests on serials that a line changes: which transfers are over, and which one flies.
use Rattle.std.proofs.Common.{◌≡◌, ℕ, ◌+◌, Bool, true, false, not, ◌&&◌, ◌||◌, ◌==◌, nat_lt, refl, arith, inl, inr}
use Rattle.std.proofs.lemmas.Bool.{lt-ltb, le-ltb, eq-eqb, ne_eqb, cases_eq, cases_lt}

-- one more is over: the next one
pub over_more : (j over k : ℕ) → j ≡ over → (j == k || nat_lt k over) ≡ nat_lt k (over + 1)
over_more j over k e = elim (cases_eq j k) [
  | inl same ↦ rw (eq-eqb j k same, lt-ltb k (over + 1) (omega arith)) refl
  | inr apart ↦ rw (ne_eqb j k apart) (elim (cases_lt k over) [
    | inl low ↦ rw (lt-ltb k over low, lt-ltb k (over + 1) (omega arith)) refl
    | inr high ↦ rw (le-ltb k over high, le-ltb k (over + 1) (omega arith)) refl
  ])
]

-- where a test is put before one of three, it may as well stand before all
pub before_first : (b l f c : Bool) → ((b || l) || f || c) ≡ (b || (l || f || c))
before_first true l f c = refl
before_first false l f c = refl

pub before_second : (b l f c : Bool) → (l || (b || f) || c) ≡ (b || (l || f || c))
before_second true true f c = refl
before_second true false f c = refl
before_second false l f c = refl

pub before_third : (b l f c : Bool) → (l || f || (b || c)) ≡ (b || (l || f || c))
before_third true true f c = refl
before_third true false true c = refl
before_third true false false c = refl
before_third false l f c = refl

-- the only one that flew lands
pub grounded : (j over k : ℕ) (is_out : Bool) → j ≡ over → (not (j == k) && (is_out && k == over)) ≡ false
grounded j over k true e = elim (cases_eq j k) [
  | inl same ↦ rw (eq-eqb j k same) refl
  | inr apart ↦ rw (ne_eqb j k apart, ne_eqb k over (λ i. omega arith)) refl
]
grounded j over k false e = elim (cases_eq j k) [ inl same ↦ rw (eq-eqb j k same) refl | inr apart ↦ rw (ne_eqb j k apart) refl ]

-- none flew, and one does
pub aloft : (j over k : ℕ) (f : Bool) → j ≡ over → f ≡ false → (j == k || f) ≡ (k == over)
aloft j over k f e none = rw none (elim (cases_eq j k) [
  | inl same ↦ rw (eq-eqb j k same, eq-eqb k over (omega arith)) refl
  | inr apart ↦ rw (ne_eqb j k apart, ne_eqb k over (λ i. omega arith)) refl
])
