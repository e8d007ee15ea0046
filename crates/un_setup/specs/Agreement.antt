-- What a set-up agrees on, and why there is no agreement.
use Rattle.std.specs.Prelude.{◌≡◌, ◌+◌, Bool, ◌&&◌, List, [], ◌∷◌, nat_lt, nat_le, if◌then◌else◌, Result, Ok, Err}
use Rattle.un_facts.specs.Lists.{is_one_of}
use Rattle.un_frame.specs.Ntb.{Format, ntb16, ntb32}
use Rattle.un_frame.specs.NtbForm.{closed_size, datagram_place}
use Rattle.un_frame.specs.Blocks.{layout_of}
use Rattle.un_frame.specs.Params.{Agree}
use Rattle.un_frame.specs.declared.params.Params.{Params}
use Rattle.un_frame.specs.declared.params.Class.{Class}
use Rattle.un_frame.specs.declared.params.Class.TheVariants.{Ecm, Eem, Ncm16, Ncm32, Rndis}
use Rattle.un_desc.specs.Configuration.{function}
use Rattle.un_setup.specs.declared.agreement.Agreed.{Agreed}
use Rattle.un_setup.specs.declared.agreement.SetupFault.{SetupFault}
use Rattle.un_setup.specs.declared.agreement.SetupFault.TheVariants.{BadDivisor, BadAlignment, NoFit, NoMemory}
use Rattle.un_desc.specs.declared.function.Function.{Function}
use Rattle.un_desc.specs.Reading.{function_of}
use Rattle.un_classreq.specs.Control.{first_gadget}
use Rattle.un_classreq.specs.Notes.{notes_as, notes_of}
use Rattle.un_setup.specs.declared.exchange.Exchange.{Exchange}
use Rattle.un_setup.specs.Exchanges.{exchanged, exchanges_of, ready, steps_of}

infixl 10 ◌>>=◌
abbrev pub ◌>>=◌ : {A B : Type 0} → Result A SetupFault → (A → Result B SetupFault) → Result B SetupFault
(Ok x) >>= f = f x
(Err e) >>= f = Err e

abbrev pub needs : SetupFault → Bool → Result (Unit {0}) SetupFault
needs fault holds = if holds then Ok tt else Err fault

-- the three tests of a block format's parameters, in their order
abbrev pub has_divisor : Params → Bool
has_divisor p = is_one_of p.divisor (1 ∷ 2 ∷ 4 ∷ 8 ∷ 16 ∷ 32 ∷ 64 ∷ []) && nat_lt p.remainder p.divisor

abbrev pub has_alignment : Params → Bool
has_alignment p = is_one_of p.alignment (4 ∷ 8 ∷ 16 ∷ 32 ∷ 64 ∷ [])

-- a block with one frame of the largest size is within the largest block
abbrev pub holds_one : Format → Params → Bool
holds_one f p = nat_le (closed_size f p.alignment (datagram_place (layout_of p) f.header + p.segment) 1) p.block

unfoldable pub blocks_tested : Format → Params → Result (Unit {0}) SetupFault
blocks_tested f p = do
  divisor ← needs (BadDivisor p.divisor p.remainder) (has_divisor p)
  alignment ← needs (BadAlignment p.alignment) (has_alignment p)
  needs (NoFit p.segment p.block) (holds_one f p)

-- ECM, EEM and RNDIS have no blocks, and always agree
abbrev pub tested_as : Class → Params → Result (Unit {0}) SetupFault
tested_as Ecm p = Ok tt
tested_as Eem p = Ok tt
tested_as Ncm16 p = blocks_tested ntb16 p
tested_as Ncm32 p = blocks_tested ntb32 p
tested_as Rndis p = Ok tt

-- what is agreed on
abbrev pub agreement : Params → Agreed
agreement p = record {
  params = p;
  function = function p;
  exchanges = exchanges_of p;
  notes = notes_as p.class;
}

unfoldable pub agreed_of : Params → Result Agreed SetupFault
agreed_of p = do
  tested ← tested_as p.class p
  Ok (agreement p)

-- the host reads the function from what the first exchange brought
abbrev pub ReadsFirst : List Exchange → Function → Type 0
ReadsFirst [] f = ⊥
ReadsFirst (e ∷ es) f = function_of e.payload ≡ Ok f

-- in RNDIS, which has no exchanges, it is the one that the parameters say
abbrev pub IsRead : Class → Params → List Exchange → Function → Type 0
IsRead Rndis p exchanges f = f ≡ function p
IsRead class p exchanges f = ReadsFirst exchanges f

-- where it comes from: a new device answers the host's steps in turn, these are the exchanges, the function is read from
-- the first of them, and the notifications are those of the device after the last
pub record IsSetUp (p : Params) (a : Agreed) : Type 0 where
  pub params : a.params ≡ p
  pub crossed : exchanged (first_gadget p) (steps_of p) ≡ Ok (record { gadget = ready p; exchanges = a.exchanges })
  pub read : IsRead p.class p a.exchanges a.function
  pub told : a.notes ≡ notes_of (ready p)

-- a call answers that; it wants memory only where there is an agreement
abbrev pub IsAgreed : Result Agreed SetupFault → Type 0
IsAgreed (Ok a) = Unit {0}
IsAgreed (Err e) = ⊥

abbrev pub Fails : SetupFault → Result Agreed SetupFault → Type 0
Fails NoMemory answer = IsAgreed answer
Fails fault answer = answer ≡ Err fault

abbrev pub Gives : Result Agreed SetupFault → Result Agreed SetupFault → Type 0
Gives (Ok a) answer = answer ≡ Ok a
Gives (Err e) answer = Fails e answer

-- the parameters of an agreement agree, those of a refusal don't
abbrev pub Refuses : SetupFault → Params → Type 0
Refuses NoMemory p = Agree p
Refuses fault p = ¬ (Agree p)

abbrev pub Decides : Result Agreed SetupFault → Params → Type 0
Decides (Ok a) p = Agree p
Decides (Err e) p = Refuses e p
