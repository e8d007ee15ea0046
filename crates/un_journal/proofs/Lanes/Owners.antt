-- In a sound lane every covered number is in the span of exactly one transfer or was dropped, and nothing is given that wasn't opened.
use Rattle.std.proofs.Common.{◌≡◌, ℕ, ◌+◌, ◌<◌, ◌≤◌, Bool, true, false, not, ◌||◌, ◌==◌, List, [], ◌∷◌, Option, Some, ◌⊎◌, inl, inr, refl, sym, ◌∙◌, subst, arith, is_some}
use Rattle.std.proofs.lemmas.Bool.{false≢true, eqb-true, or_cases, or_right, cases_lt}
use Rattle.std.proofs.lemmas.Bool.Decides.{nat_tests}
use Rattle.std.proofs.lemmas.Option.{same_Some, none-some}
use Rattle.un_facts.specs.Numbers.{within}
use Rattle.un_frame.specs.declared.params.Lane.{Lane}
use Rattle.un_journal.specs.declared.lines.Line.TheVariants.{Made, Landed, Dropped, Opened, Gave}
use Rattle.un_journal.specs.History.{History, made, cover, landed, opened, gave, serial_of, dropped, told_if}
use Rattle.un_journal.specs.Sound.{IsSound, IsNextSpan}

-- who has number n: a transfer or a drop, where it is covered
pub record Owned (n : ℕ) (owner : Option ℕ) (drop' : Bool) (cover' made' : ℕ) : Type 0 where
  pub above : cover' ≤ n → (is_some owner ≡ false) × (drop' ≡ false)
  pub below : n < cover' → (is_some owner ≡ not drop')
  pub known : (k : ℕ) → owner ≡ Some k → k < made'

pub within_yes : (a b n : ℕ) → a ≤ n → n < b → within a b n ≡ true
within_yes a b n p q = grind (arith, nat_tests)

pub within_below : (a b n : ℕ) → n < a → within a b n ≡ false
within_below a b n p = grind (arith, nat_tests)

pub within_above : (a b n : ℕ) → b ≤ n → within a b n ≡ false
within_above a b n p = grind (arith, nat_tests)

pub within_true : (a b n : ℕ) → within a b n ≡ true → (a ≤ n) × (n < b)
within_true a b n e = grind (arith, nat_tests)

pub within_false : (a b n : ℕ) → within a b n ≡ false → (n < a) ⊎ (b ≤ n)
within_false a b n e = grind (arith, nat_tests)

make_outside : (n a b m : ℕ) (o : Option ℕ) (d : Bool) → (n < a) ⊎ (b ≤ n) → a < b → Owned n o d a m → Owned n o d b (m + 1)
make_outside n a b m o d (inl low) ab w = record {
  above = λ h. absurd (omega arith);
  below = λ h. w.below low;
  known = λ k e. let small : k < m = w.known k e in omega arith;
}
make_outside n a b m o d (inr high) ab w = record {
  above = λ h. w.above (omega arith);
  below = λ h. absurd (omega arith);
  known = λ k e. let small : k < m = w.known k e in omega arith;
}

make_inside : (n a b m : ℕ) (o : Option ℕ) (d : Bool) → (a ≤ n) × (n < b) → Owned n o d a m → Owned n (Some m) d b (m + 1)
make_inside n a b m o d i w = record {
  above = λ h. absurd (omega (arith, i.1));
  below = λ h. rw (w.above i.0).1 refl;
  known = λ k e. let same : m ≡ k = same_Some m k e in omega arith;
}

pub make : (v : Bool) (n a b m : ℕ) (o : Option ℕ) (d : Bool) → (v ≡ true → (a ≤ n) × (n < b)) → (v ≡ false → (n < a) ⊎ (b ≤ n)) → a < b → Owned n o d a m → Owned n (told_if v m o) d b (m + 1)
make true n a b m o d t f ab w = make_inside n a b m o d (t refl) w
make false n a b m o d t f ab w = make_outside n a b m o d (f refl) ab w

drop_outside : (n a b m : ℕ) (o : Option ℕ) (d : Bool) → (n < a) ⊎ (b ≤ n) → a < b → Owned n o d a m → Owned n o d b m
drop_outside n a b m o d (inl low) ab w = record { above = λ h. absurd (omega arith); below = λ h. w.below low; known = w.known }
drop_outside n a b m o d (inr high) ab w = record { above = λ h. w.above (omega arith); below = λ h. absurd (omega arith); known = w.known }

pub drop_span : (v : Bool) (n a b m : ℕ) (o : Option ℕ) (d : Bool) → (v ≡ true → (a ≤ n) × (n < b)) → (v ≡ false → (n < a) ⊎ (b ≤ n)) → a < b → Owned n o d a m → Owned n o (v || d) b m
drop_span true n a b m o d t f ab w = record {
  above = λ h. absurd (omega (arith, (t refl).1));
  below = λ h. (w.above (t refl).0).0;
  known = w.known;
}
drop_span false n a b m o d t f ab w = drop_outside n a b m o d (f refl) ab w

abbrev pub OwnedIn : History → ℕ → Type 0
OwnedIn g n = Owned n (serial_of g n) (dropped g n) (cover g) (made g)

-- from the span's beginning to the cover, and from the serial to the number made
make_at : (g : History) (l : Lane) (k a b n : ℕ) (bytes : List ℕ) → (k ≡ made g) × IsNextSpan g a b → OwnedIn g n → OwnedIn ((Made l k a b, bytes) ∷ g) n
make_at g l k a b n bytes f w =
    rw (f.0, f.1.begins) (make (within (cover g) b n) n (cover g) b (made g) (serial_of g n) (dropped g n)
    (within_true (cover g) b n) (within_false (cover g) b n) (let some : a < b = f.1.is_some in let same : a ≡ cover g = f.1.begins in omega arith) w)

drop_at : (g : History) (l : Lane) (a b c n : ℕ) (bytes : List ℕ) → IsNextSpan g a b → OwnedIn g n → OwnedIn ((Dropped l a b c, bytes) ∷ g) n
drop_at g l a b c n bytes f w =
    rw f.begins (drop_span (within (cover g) b n) n (cover g) b (made g) (serial_of g n) (dropped g n)
    (within_true (cover g) b n) (within_false (cover g) b n) (let some : a < b = f.is_some in let same : a ≡ cover g = f.begins in omega arith) w)

pub owned : (g : History) → IsSound g → (n : ℕ) → OwnedIn g n
owned [] sound n = record { above = λ h. (refl, refl); below = λ h. absurd (omega arith); known = λ k e. absurd (none-some k e) }
owned ((Made l k a b, bytes) ∷ g) sound n = make_at g l k a b n bytes sound.0 (owned g sound.1 n)
owned ((Dropped l a b c, bytes) ∷ g) sound n = drop_at g l a b c n bytes sound.0 (owned g sound.1 n)
owned (e ∷ g) sound n = owned g sound.1 n

-- what is opened has landed
pub opened_landed : (g : History) → IsSound g → (k : ℕ) → opened g k ≡ true → landed g k ≡ true
opened_landed [] sound k e = absurd (false≢true e)
opened_landed ((Opened l j, bytes) ∷ g) sound k e =
    elim (or_cases (j == k) (opened g k) e) [ inl same ↦ subst (λ i. landed g i ≡ true) (eqb-true j k same) sound.0.is_landed | inr before ↦ opened_landed g sound.1 k before ]
opened_landed ((Landed l j, bytes) ∷ g) sound k e = or_right (j == k) (landed g k) (opened_landed g sound.1 k e)
opened_landed (x ∷ g) sound k e = opened_landed g sound.1 k e

-- the transfer of a number
pub record GivenFrom (owner : Option ℕ) (is_opened : ℕ → Bool) : Type 0 where
  pub serial : ℕ
  pub is_owner : owner ≡ Some serial
  pub was_opened : is_opened serial ≡ true

pub is_some_from : (o : Option ℕ) (k : ℕ) → o ≡ Some k → is_some o ≡ true
is_some_from o k e = rw e refl

-- a covered number isn't in a span that begins at the cover
covered_outside : (g : History) (n b k : ℕ) → OwnedIn g n → serial_of g n ≡ Some k → within (cover g) b n ≡ false
covered_outside g n b k w e =
    elim (cases_lt n (cover g)) [ inl low ↦ within_below (cover g) b n low | inr high ↦ absurd (false≢true (sym (w.above high).0 ∙ is_some_from (serial_of g n) k e)) ]

given_made : (g : History) (l : Lane) (k a b n : ℕ) (bytes : List ℕ) → (k ≡ made g) × IsNextSpan g a b → OwnedIn g n → GivenFrom (serial_of g n) (opened g) → GivenFrom (told_if (within a b n) k (serial_of g n)) (opened g)
given_made g l k a b n bytes f w r =
    record { serial = r.serial; was_opened = r.was_opened; is_owner = rw (f.1.begins, covered_outside g n b r.serial w r.is_owner) r.is_owner }

pub given_from : (g : History) → IsSound g → (n : ℕ) → gave g n ≡ true → GivenFrom (serial_of g n) (opened g)
given_from [] sound n e = absurd (false≢true e)
given_from ((Gave l m, bytes) ∷ g) sound n e =
    elim (or_cases (m == n) (gave g n) e) [
      | inl same ↦ subst (λ i. GivenFrom (serial_of g i) (opened g)) (eqb-true m n same) (record { serial = sound.0.serial; is_owner = sound.0.is_in_span; was_opened = sound.0.is_opened })
      | inr before ↦ given_from g sound.1 n before
    ]
given_from ((Made l k a b, bytes) ∷ g) sound n e = given_made g l k a b n bytes sound.0 (owned g sound.1 n) (given_from g sound.1 n e)
given_from ((Opened l j, bytes) ∷ g) sound n e =
    let r = given_from g sound.1 n e in
    record { serial = r.serial; is_owner = r.is_owner; was_opened = or_right (j == r.serial) (opened g r.serial) r.was_opened }
given_from (x ∷ g) sound n e = given_from g sound.1 n e
