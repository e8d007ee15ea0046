-- Where the tests pass, the parameters agree, and where they don't, not.
use Rattle.std.proofs.Common.{◌≡◌, ℕ, ◌<◌, Bool, true, false, nat_lt, [], ◌∷◌, Ok, Err, refl, arith}
use Rattle.std.proofs.lemmas.Bool.Decides.{nat_tests}
use Rattle.std.proofs.lemmas.Bool.{and_from, and_parts}
use Rattle.un_facts.specs.Lists.{is_one_of}
use Rattle.un_frame.specs.Ntb.{Format, ntb16, ntb32}
use Rattle.un_frame.specs.Blocks.{BlocksAgree}
use Rattle.un_frame.specs.Params.{AgreeAs}
use Rattle.un_frame.specs.declared.params.Params.{Params}
use Rattle.un_frame.specs.declared.params.Class.{Class}
use Rattle.un_frame.specs.declared.params.Class.TheVariants.{Ecm, Eem, Ncm16, Ncm32, Rndis}
use Rattle.un_setup.specs.declared.agreement.SetupFault.{SetupFault}
use Rattle.un_setup.specs.declared.agreement.SetupFault.TheVariants.{BadDivisor, BadAlignment, NoFit, NoMemory}
use Rattle.un_setup.specs.Agreement.{◌>>=◌, needs, has_divisor, has_alignment, holds_one, blocks_tested, tested_as, agreed_of, Fails, Refuses}

three_passed : (a b c : Bool) (e f g : SetupFault) → (needs e a >>= λ _. (needs f b >>= λ _. needs g c)) ≡ Ok tt → (a ≡ true) × (b ≡ true) × (c ≡ true)
three_passed true true true e f g h = (refl, refl, refl)
three_passed true true false e f g h = cc
three_passed true false c e f g h = cc
three_passed false b c e f g h = cc

all_pass : (a b c : Bool) (e f g d : SetupFault) → (needs e a >>= λ _. (needs f b >>= λ _. needs g c)) ≡ Err d → a ≡ true → b ≡ true → c ≡ true → ⊥
all_pass true true true e f g d h i j k = cc
all_pass true true false e f g d h i j k = cc
all_pass true false c e f g d h i j k = cc
all_pass false b c e f g d h i j k = cc

divisor_is : (p : Params) → has_divisor p ≡ true → (is_one_of p.divisor (1 ∷ 2 ∷ 4 ∷ 8 ∷ 16 ∷ 32 ∷ 64 ∷ []) ≡ true) × (p.remainder < p.divisor)
divisor_is p e =
    let s = and_parts (is_one_of p.divisor (1 ∷ 2 ∷ 4 ∷ 8 ∷ 16 ∷ 32 ∷ 64 ∷ [])) (nat_lt p.remainder p.divisor) e in
    let below : nat_lt p.remainder p.divisor ≡ true = s.1 in
    (s.0, grind (arith, nat_tests))

blocks_pass : (f : Format) (p : Params) → blocks_tested f p ≡ Ok tt → BlocksAgree f p
unfolding blocks_tested
blocks_pass f p h =
    let t = three_passed (has_divisor p) (has_alignment p) (holds_one f p) (BadDivisor p.divisor p.remainder) (BadAlignment p.alignment) (NoFit p.segment p.block) h in
    let divisor : has_divisor p ≡ true = t.0 in
    let alignment : has_alignment p ≡ true = t.1 in
    let one : holds_one f p ≡ true = t.2 in
    let both : (is_one_of p.divisor (1 ∷ 2 ∷ 4 ∷ 8 ∷ 16 ∷ 32 ∷ 64 ∷ []) ≡ true) × (p.remainder < p.divisor) = divisor_is p divisor in
    record {
      divisor = both.0;
      remainder = both.1;
      alignment = alignment;
      largest = grind (arith, nat_tests);
    }

blocks_fail : (f : Format) (p : Params) (e : SetupFault) → blocks_tested f p ≡ Err e → BlocksAgree f p → ⊥
unfolding blocks_tested
blocks_fail f p e h agree =
    let below : nat_lt p.remainder p.divisor ≡ true = grind (arith, nat_tests, agree.remainder) in
    let divisor : has_divisor p ≡ true = and_from _ _ agree.divisor below in
    let one : holds_one f p ≡ true = grind (arith, nat_tests, agree.largest) in
    all_pass (has_divisor p) (has_alignment p) (holds_one f p) _ _ _ e h divisor agree.alignment one

pub tests_pass : (class : Class) (p : Params) → tested_as class p ≡ Ok tt → AgreeAs class p
tests_pass Ecm p h = tt
tests_pass Eem p h = tt
tests_pass Ncm16 p h = blocks_pass ntb16 p h
tests_pass Ncm32 p h = blocks_pass ntb32 p h
tests_pass Rndis p h = tt

pub tests_fail : (class : Class) (p : Params) (e : SetupFault) → tested_as class p ≡ Err e → AgreeAs class p → ⊥
tests_fail Ecm p e h agree = cc
tests_fail Eem p e h agree = cc
tests_fail Ncm16 p e h agree = blocks_fail ntb16 p e h agree
tests_fail Ncm32 p e h agree = blocks_fail ntb32 p e h agree
tests_fail Rndis p e h agree = cc

-- no test wants memory
not_memory : (a b c : Bool) (d r al s bl : ℕ) → (needs (BadDivisor d r) a >>= λ _. (needs (BadAlignment al) b >>= λ _. needs (NoFit s bl) c)) ≡ Err NoMemory → ⊥
not_memory true true true d r al s bl h = cc
not_memory true true false d r al s bl h = cc
not_memory true false c d r al s bl h = cc
not_memory false b c d r al s bl h = cc

blocks_not_memory : (f : Format) (p : Params) → blocks_tested f p ≡ Err NoMemory → ⊥
unfolding blocks_tested
blocks_not_memory f p h = not_memory (has_divisor p) (has_alignment p) (holds_one f p) p.divisor p.remainder p.alignment p.segment p.block h

tests_not_memory : (class : Class) (p : Params) → tested_as class p ≡ Err NoMemory → ⊥
tests_not_memory Ecm p h = cc
tests_not_memory Eem p h = cc
tests_not_memory Ncm16 p h = blocks_not_memory ntb16 p h
tests_not_memory Ncm32 p h = blocks_not_memory ntb32 p h
tests_not_memory Rndis p h = cc

pub refused : (p : Params) (e : SetupFault) → tested_as p.class p ≡ Err e → Fails e (agreed_of p)
unfolding agreed_of
refused p (BadDivisor d r) h = rw h refl
refused p (BadAlignment a) h = rw h refl
refused p (NoFit s b) h = rw h refl
refused p NoMemory h = absurd (tests_not_memory p.class p h)

pub refuses : (p : Params) (e : SetupFault) → tested_as p.class p ≡ Err e → Refuses e p
refuses p (BadDivisor d r) h = λ agree. tests_fail p.class p (BadDivisor d r) h agree
refuses p (BadAlignment a) h = λ agree. tests_fail p.class p (BadAlignment a) h agree
refuses p (NoFit s b) h = λ agree. tests_fail p.class p (NoFit s b) h agree
refuses p NoMemory h = absurd (tests_not_memory p.class p h)
