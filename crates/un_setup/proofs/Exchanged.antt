-- A device with parameters in range answers each step of the host.
use Rattle.std.proofs.Common.{◌≡◌, ℕ, zero, suc, ◌+◌, ◌^◌, ◌<◌, ◌≤◌, true, false, nat_le, ◌==◌, List, [], ◌∷◌, ◌++◌, length, take, drop, get_or, map, Result, Ok, Err, IsOk, refl, sym, ap, subst, ◌∙◌, arith}
use Rattle.std.proofs.Math.Seq.{take-suc}
use Rattle.std.proofs.lemmas.Bool.Decides.{nat_tests}
use Rattle.std.proofs.lemmas.List.{take-append-drop}
use Rattle.un_facts.specs.Results.{◌>>=◌}
use Rattle.un_facts.specs.Numbers.{is_between}
use Rattle.byteorder.specs.Numbers.{little_number-reads_back}
use Rattle.un_frame.specs.Bytes.{number_at, number_bytes}
use Rattle.un_frame.specs.Params.{AreInRange}
use Rattle.un_frame.specs.declared.params.Params.{Params}
use Rattle.un_frame.specs.declared.params.Class.{Class}
use Rattle.un_frame.specs.declared.params.Class.TheVariants.{Ecm, Eem, Ncm16, Ncm32, Rndis}
use Rattle.un_desc.specs.declared.function.Function.{Function}
use Rattle.un_desc.specs.Reading.{function_of}
use Rattle.un_desc.specs.Configuration.{IsDescribed, configuration, configuration_as, function_as}
use Rattle.un_classreq.specs.declared.state.State.{State}
use Rattle.un_classreq.specs.declared.request.Classes.TheVariants.{EcmAndNcm, NcmAlone}
use Rattle.un_classreq.specs.declared.device.Why.{Why}
use Rattle.un_classreq.specs.Requests.{ntb_parameters, last_format}
use Rattle.un_classreq.specs.Notes.{notes_as, notes_of}
use Rattle.un_classreq.specs.Control.{Gadget, Controlled, controlled, judged, named, has_length, serves, first_state, first_gadget}
use Rattle.un_setup.specs.declared.exchange.Exchange.{Exchange}
use Rattle.un_setup.specs.declared.exchange.ExchangeFault.{ExchangeFault}
use Rattle.un_setup.specs.declared.exchange.ExchangeFault.TheVariants.{Stalled, NoMemory}
use Rattle.un_setup.specs.Exchanges.{exchange, get_descriptor, set_configuration, set_interface, set_filter, get_parameters, set_format, set_input_size, set_datagram_size, ncm_steps, ncm_exchanges, exchanges_as, exchanges_of, host_side, crossed, Crossing, crossing, Session, with_first, exchanged, Stalls, ready_as, ready, steps_of, ExchangeSucceeds}
use Rattle.un_setup.specs.Agreement.{IsRead, IsSetUp, ReadsFirst}

abbrev at : Params → State → Gadget
at p s = record { params = p; state = s }

abbrev answer : Params → State → List ℕ → Result Controlled Why
answer p s bytes = Ok (record { gadget = at p s; bytes = bytes })

take_long : {A : Type 0} (xs : List A) (k : ℕ) → length xs ≤ k → take k xs ≡ xs
take_long [] zero h = refl
take_long [] (suc k) h = refl
take_long (x ∷ xs) zero h = absurd (omega arith)
take_long (x ∷ xs) (suc k) h = ap (λ l. x ∷ l) (take_long xs k (omega arith))

-- the configuration is sent whole
short_as : (class : Class) (p : Params) → length (configuration_as class p) ≤ 255
unfolding number_bytes
short_as Ecm p = omega arith
short_as Eem p = omega arith
short_as Ncm16 p = omega arith
short_as Ncm32 p = omega arith
short_as Rndis p = omega arith

short : (p : Params) → length (configuration p) ≤ 255
unfolding configuration
short p = short_as p.class p

-- EACH STEP AT THE DEVICE

described : (p : Params) (s : State) → controlled (at p s) get_descriptor [] ≡ answer p s (configuration p)
unfolding controlled judged named has_length
described p s = ap (answer p s) (take_long (configuration p) 255 (short p))

configured : (p : Params) (s : State) → controlled (at p s) set_configuration [] ≡ answer p (record s { configuration = 1; setting = 0 }) []
unfolding controlled judged named has_length
configured p s = refl

filtered : (p : Params) (s : State) → serves EcmAndNcm p.class ≡ true → nat_le p.filter 0x1f ≡ true → controlled (at p s) (set_filter p.filter) [] ≡ answer p (record s { filter = p.filter }) []
unfolding controlled judged named has_length
filtered p s h k = rw (h, k) refl

set : (p : Params) (s : State) → serves EcmAndNcm p.class ≡ true → controlled (at p s) set_interface [] ≡ answer p (record s { setting = 1 }) []
unfolding controlled judged named has_length
set p s h = rw h refl

parameters : (p : Params) (s : State) → serves NcmAlone p.class ≡ true → controlled (at p s) get_parameters [] ≡ answer p s (ntb_parameters p)
unfolding controlled judged named has_length number_bytes
parameters p s h = rw h refl

formatted : (p : Params) (s : State) (format : ℕ) → serves NcmAlone p.class ≡ true → (s.setting == 0) ≡ true → nat_le format (last_format p.class) ≡ true → controlled (at p s) (set_format format) [] ≡ answer p (record s { format = format }) []
unfolding controlled judged named has_length
formatted p s format h k l = rw (h, k, l) refl

long_again : (x : ℕ) → x < 2 ^ 32 → number_at 4 (number_bytes 4 x) 0 ≡ x
unfolding number_at number_bytes
long_again x h = little_number-reads_back 4 x [] h

short_again : (x : ℕ) → x < 65536 → number_at 2 (number_bytes 2 x) 0 ≡ x
unfolding number_at number_bytes
short_again x h = little_number-reads_back 2 x [] h

long_is : (x : ℕ) → length (number_bytes 4 x) ≡ 4
unfolding number_bytes
long_is x = refl

short_is : (x : ℕ) → length (number_bytes 2 x) ≡ 2
unfolding number_bytes
short_is x = refl

sized : (p : Params) (s : State) → serves NcmAlone p.class ≡ true → (s.setting == 0) ≡ true → p.block < 2 ^ 32 → is_between 2048 p.block p.block ≡ true → controlled (at p s) set_input_size (number_bytes 4 p.block) ≡ answer p (record s { input_size = p.block }) []
unfolding controlled judged named has_length
sized p s h k small l = rw (h, long_is p.block, k, long_again p.block small, l) refl

limited : (p : Params) (s : State) → serves NcmAlone p.class ≡ true → (s.setting == 0) ≡ true → p.segment < 65536 → is_between 60 p.segment p.segment ≡ true → controlled (at p s) set_datagram_size (number_bytes 2 p.segment) ≡ answer p (record s { datagram_size = p.segment }) []
unfolding controlled judged named has_length
limited p s h k small l = rw (h, short_is p.segment, k, short_again p.segment small, l) refl

-- STEPS ONE AFTER THE OTHER

-- at a device that answers, what crosses is the reply of a request from it, and else what the host sent
pub crossing_in : (g h : Gadget) (step : Exchange) (bytes : List ℕ) → controlled g step.setup step.payload ≡ Ok (record { gadget = h; bytes = bytes }) → nat_le 128 step.setup.request_type ≡ true → crossing g step ≡ Ok (record { gadget = h; exchange = exchange step.setup bytes })
unfolding crossing
crossing_in g h step bytes c k = rw (c, k) refl

pub crossing_out : (g h : Gadget) (step : Exchange) (bytes payload : List ℕ) → controlled g step.setup step.payload ≡ Ok (record { gadget = h; bytes = bytes }) → nat_le 128 step.setup.request_type ≡ false → payload ≡ step.payload → crossing g step ≡ Ok (record { gadget = h; exchange = exchange step.setup payload })
unfolding crossing
crossing_out g h step bytes payload c k e = rw (c, k, e) refl

pub crossing_stalls : (g : Gadget) (step : Exchange) (why : Why) → controlled g step.setup step.payload ≡ Err why → IsOk (crossing g step) → ⊥
unfolding crossing
crossing_stalls g step why c h = let no : IsOk (crossing g step) = h in absurd_ok (rw c at no) where
  absurd_ok : IsOk {T = Crossing} {E = Why} (Err why) → ⊥
  absurd_ok k = cc

crossing_of : (g : Gadget) (step : Exchange) (c : Gadget) (bytes : List ℕ) → controlled g step.setup step.payload ≡ Ok (record { gadget = c; bytes = bytes }) → crossing g step ≡ Ok (record { gadget = c; exchange = crossed step bytes })
unfolding crossing
crossing_of g step c bytes h = rw h refl

abbrev session : Params → State → List Exchange → Result Session Why
session p s es = Ok (record { gadget = at p s; exchanges = es })

more : (p : Params) (s t u : State) (step e : Exchange) (bytes : List ℕ) (steps rest : List Exchange) → controlled (at p s) step.setup step.payload ≡ answer p t bytes → crossed step bytes ≡ e → exchanged (at p t) steps ≡ session p u rest → exchanged (at p s) (step ∷ steps) ≡ session p u (e ∷ rest)
unfolding exchanged
more p s t u step e bytes steps rest h c k = rw (crossing_of (at p s) step (at p t) bytes h, k, c) refl

none : (p : Params) (s : State) → exchanged (at p s) [] ≡ session p s []
unfolding exchanged
none p s = refl

-- the last two of ECM and NCM
last_two : (p : Params) (s : State) → serves EcmAndNcm p.class ≡ true → nat_le p.filter 0x1f ≡ true → exchanged (at p s) (exchange (set_filter p.filter) [] ∷ exchange set_interface [] ∷ []) ≡ session p (record s { filter = p.filter; setting = 1 }) (exchange (set_filter p.filter) [] ∷ exchange set_interface [] ∷ [])
last_two p s h k =
    let t : State = record s { filter = p.filter } in
    let u : State = record t { setting = 1 } in
    more p s t u _ _ _ _ _ (filtered p s h k) refl (more p t u u _ _ _ _ _ (set p t h) refl (none p u))

-- the first two of all
first_two : (p : Params) (s u : State) (steps rest : List Exchange) → exchanged (at p (record s { configuration = 1; setting = 0 })) steps ≡ session p u rest → exchanged (at p s) (exchange get_descriptor [] ∷ exchange set_configuration [] ∷ steps) ≡ session p u (exchange get_descriptor (configuration p) ∷ exchange set_configuration [] ∷ rest)
first_two p s u steps rest h =
    let t : State = record s { configuration = 1; setting = 0 } in
    more p s s u _ _ _ _ _ (described p s) refl (more p s t u _ _ _ _ _ (configured p s) refl h)

-- those of NCM between
middle_four : (p : Params) (s end : State) (format : ℕ) → serves NcmAlone p.class ≡ true → (s.setting == 0) ≡ true → nat_le format (last_format p.class) ≡ true → AreInRange p → p.block < 2 ^ 32 → (steps rest : List Exchange) → exchanged (at p (record s { format = format; input_size = p.block; datagram_size = p.segment })) steps ≡ session p end rest
    → exchanged (at p s) (exchange get_parameters [] ∷ exchange (set_format format) [] ∷ exchange set_input_size (number_bytes 4 p.block) ∷ exchange set_datagram_size (number_bytes 2 p.segment) ∷ steps)
    ≡ session p end (exchange get_parameters (ntb_parameters p) ∷ exchange (set_format format) [] ∷ exchange set_input_size (number_bytes 4 p.block) ∷ exchange set_datagram_size (number_bytes 2 p.segment) ∷ rest)
middle_four p s end format h k l range small steps rest then =
    let t : State = record s { format = format } in
    let u : State = record t { input_size = p.block } in
    let v : State = record u { datagram_size = p.segment } in
    let block : is_between 2048 p.block p.block ≡ true = grind (arith, nat_tests, range.block) in
    let segment : is_between 60 p.segment p.segment ≡ true = grind (arith, nat_tests, range.segment) in
    let fits : p.segment < 65536 = omega (arith, range.segment) in
    more p s s end _ _ _ _ _ (parameters p s h) refl
    (more p s t end _ _ _ _ _ (formatted p s format h k l) refl
    (more p t u end _ _ _ _ _ (sized p t h k small block) refl
    (more p u v end _ _ _ _ _ (limited p u h k fits segment) refl then)))

small_as : (class : Class) (p : Params) → p.block ≤ Rattle.un_frame.specs.Params.most_block class → p.block < 2 ^ 32
small_as Ecm p h = omega arith
small_as Eem p h = omega arith
small_as Ncm16 p h = omega arith
small_as Ncm32 p h = omega arith
small_as Rndis p h = omega arith

-- the state that NCM's steps leave
abbrev ncm_state : Params → ℕ → State
ncm_state p format = record (first_state p) { configuration = 1; setting = 1; filter = p.filter; format = format }

ncm_law : (p : Params) (format : ℕ) → serves NcmAlone p.class ≡ true → serves EcmAndNcm p.class ≡ true → nat_le format (last_format p.class) ≡ true → AreInRange p → exchanged (first_gadget p) (ncm_steps format p.block p.segment p.filter) ≡ session p (ncm_state p format) (ncm_exchanges format p)
ncm_law p format h k l range =
    let filter : nat_le p.filter 0x1f ≡ true = grind (arith, nat_tests, range.filter) in
    let s : State = record (first_state p) { configuration = 1; setting = 0 } in
    let t : State = record s { format = format; input_size = p.block; datagram_size = p.segment } in
    first_two p (first_state p) (ncm_state p format) _ _ (middle_four p s (ncm_state p format) format h refl l range (small_as p.class p range.block.1) _ _ (last_two p t k filter))

law_as : (class : Class) (p : Params) → p.class ≡ class → AreInRange p → exchanged (first_gadget p) (map host_side (exchanges_as class p)) ≡ session p (ready_as class p) (exchanges_as class p)
law_as Ecm p e range =
    let filter : nat_le p.filter 0x1f ≡ true = grind (arith, nat_tests, range.filter) in
    first_two p (first_state p) (ready_as Ecm p) _ _ (last_two p (record (first_state p) { configuration = 1; setting = 0 }) (ap (serves EcmAndNcm) e) filter)
law_as Eem p e range = first_two p (first_state p) (ready_as Eem p) _ _ (none p (record (first_state p) { configuration = 1; setting = 0 }))
law_as Ncm16 p e range = ncm_law p 0 (ap (serves NcmAlone) e) (ap (serves EcmAndNcm) e) (ap (λ (class : Class). nat_le 0 (last_format class)) e) range
law_as Ncm32 p e range = ncm_law p 1 (ap (serves NcmAlone) e) (ap (serves EcmAndNcm) e) (ap (λ (class : Class). nat_le 1 (last_format class)) e) range
law_as Rndis p e range = none p (first_state p)

told_as : (class : Class) (p : Params) → p.class ≡ class → notes_of (at p (ready_as class p)) ≡ notes_as class
told_as Ecm p e = ap notes_as e
told_as Eem p e = refl
told_as Ncm16 p e = ap notes_as e
told_as Ncm32 p e = ap notes_as e
told_as Rndis p e = refl

pub exchange_succeeds : (p : Params) → AreInRange p → ExchangeSucceeds p
exchange_succeeds p range = record { crossed = law_as p.class p refl range; told = told_as p.class p refl }

-- in RNDIS there is no step, and the function is known by the parameters
at_once : (p : Params) → p.class ≡ Rndis → IsSetUp p (record { params = p; function = function_as Rndis p; exchanges = []; notes = [] })
at_once p h = record {
  params = refl;
  crossed = subst (λ (class : Class). exchanged (first_gadget p) (map host_side (exchanges_as class p)) ≡ session p (ready_as class p) []) (sym h) (none p (first_state p));
  read = subst (λ (class : Class). IsRead class p [] (function_as Rndis p)) (sym h) (ap (λ (class : Class). function_as class p) (sym h));
  told = subst (λ (class : Class). [] ≡ notes_of (at p (ready_as class p))) (sym h) refl;
}

pub set_up_at_once : (p : Params) (es : List Exchange) (notes : List (List ℕ)) → p.class ≡ Rndis → es ≡ [] → notes ≡ [] → IsSetUp p (record { params = p; function = function_as Rndis p; exchanges = es; notes = notes })
set_up_at_once p es notes h e f = rw (e, f) (at_once p h)

item : (xs : List Exchange) (i : ℕ) (x : Exchange) → i < length xs → x ≡ get_or xs i x → drop i xs ≡ x ∷ drop (suc i) xs
item [] i x h e = absurd (omega arith)
item (y ∷ ys) zero x h e = ap (λ (z : Exchange). z ∷ ys) (sym e)
item (y ∷ ys) (suc i) x h e = item ys i x (omega arith) e

-- the steps that are left are the next one and those behind it
next_item : (xs : List Exchange) (i : ℕ) (x : Exchange) → i < length xs → x ≡ get_or xs i x → drop i xs ≡ x ∷ drop (i + 1) xs
next_item xs i x h e =
    let same : suc i ≡ i + 1 = omega arith in
    item xs i x h e ∙ ap (λ (n : ℕ). x ∷ drop n xs) same

-- THE LOOP

-- two sessions, one after the other
abbrev both : Session → Session → Session
both s t = record { gadget = t.gadget; exchanges = s.exchanges ++ t.exchanges }

abbrev then : Result Session Why → List Exchange → Result Session Why
then r ys = r >>= λ s. (exchanged s.gadget ys >>= λ t. Ok (both s t))

both_none : (g : Gadget) (r : Result Session Why) → r ≡ (r >>= λ t. Ok (both (record { gadget = g; exchanges = [] }) t))
both_none g (Ok t) = refl
both_none g (Err why) = refl

both_first : (e : Exchange) (s : Session) (r : Result Session Why) → ((r >>= λ t. Ok (both s t)) >>= λ rest. Ok (with_first e rest)) ≡ (r >>= λ t. Ok (both (with_first e s) t))
both_first e s (Ok t) = refl
both_first e s (Err why) = refl

then_first : (e : Exchange) (r : Result Session Why) (ys : List Exchange) → (then r ys >>= λ rest. Ok (with_first e rest)) ≡ then (r >>= λ rest. Ok (with_first e rest)) ys
then_first e (Ok s) ys = both_first e s (exchanged s.gadget ys)
then_first e (Err why) ys = refl

step_then : (r : Result Crossing Why) (xs ys : List Exchange) → ((h : Gadget) → exchanged h (xs ++ ys) ≡ then (exchanged h xs) ys) → (r >>= λ one. (exchanged one.gadget (xs ++ ys) >>= λ rest. Ok (with_first one.exchange rest))) ≡ then (r >>= λ one. (exchanged one.gadget xs >>= λ rest. Ok (with_first one.exchange rest))) ys
step_then (Ok one) xs ys again = ap (λ (q : Result Session Why). q >>= λ rest. Ok (with_first one.exchange rest)) (again one.gadget) ∙ then_first one.exchange (exchanged one.gadget xs) ys
step_then (Err why) xs ys again = refl

-- steps and then others
exchanged_then : (xs ys : List Exchange) (g : Gadget) → exchanged g (xs ++ ys) ≡ then (exchanged g xs) ys
unfolding exchanged
exchanged_then [] ys g = both_none g (exchanged g ys)
exchanged_then (x ∷ xs) ys g = step_then (crossing g x) xs ys (λ h. exchanged_then xs ys h)

one_step : (g h : Gadget) (step e : Exchange) → crossing g step ≡ Ok (record { gadget = h; exchange = e }) → exchanged g (step ∷ []) ≡ Ok (record { gadget = h; exchanges = e ∷ [] })
unfolding exchanged
one_step g h step e c = rw c refl

one_stalls : (g : Gadget) (step : Exchange) (steps : List Exchange) (why : Why) → crossing g step ≡ Err why → exchanged g (step ∷ steps) ≡ Err why
unfolding exchanged
one_stalls g step steps why c = rw c refl

-- before the first step
pub nothing_yet : (g : Gadget) → exchanged g [] ≡ Ok (record { gadget = g; exchanges = [] })
unfolding exchanged
nothing_yet g = refl

-- the steps up to the next one
up_to_next : (xs : List Exchange) (i : ℕ) (x : Exchange) → i < length xs → x ≡ get_or xs i x → take (i + 1) xs ≡ take i xs ++ x ∷ []
up_to_next xs i x h e =
    let same : suc i ≡ i + 1 = omega arith in
    ap (λ (n : ℕ). take n xs) (sym same) ∙ take-suc xs i x h ∙ ap (λ (y : Exchange). take i xs ++ y ∷ []) (sym e)

-- all of them, with the next one between
around_next : (xs : List Exchange) (i : ℕ) (x : Exchange) → i < length xs → x ≡ get_or xs i x → xs ≡ take i xs ++ x ∷ drop (i + 1) xs
around_next xs i x h e = sym (take-append-drop i xs) ∙ ap (λ (ys : List Exchange). take i xs ++ ys) (next_item xs i x h e)

-- a step that crosses after others
pub one_more : (xs : List Exchange) (i : ℕ) (g h k : Gadget) (step e : Exchange) (done : List Exchange) → i < length xs → step ≡ get_or xs i step → exchanged g (take i xs) ≡ Ok (record { gadget = h; exchanges = done }) → crossing h step ≡ Ok (record { gadget = k; exchange = e }) → exchanged g (take (i + 1) xs) ≡ Ok (record { gadget = k; exchanges = done ++ e ∷ [] })
one_more xs i g h k step e done inside item before c =
    ap (exchanged g) (up_to_next xs i step inside item)
    ∙ exchanged_then (take i xs) (step ∷ []) g
    ∙ ap (λ (r : Result Session Why). then r (step ∷ [])) before
    ∙ ap (λ (r : Result Session Why). r >>= λ t. Ok (both (record { gadget = h; exchanges = done }) t)) (one_step h k step e c)

-- and one that the device stalls at
pub one_stalled : (xs : List Exchange) (i : ℕ) (g h : Gadget) (step : Exchange) (done : List Exchange) (fault : ExchangeFault) → i < length xs → step ≡ get_or xs i step → exchanged g (take i xs) ≡ Ok (record { gadget = h; exchanges = done }) → Stalls (crossing h step) fault → Stalls (exchanged g xs) fault
one_stalled xs i g h step done (Stalled why) inside item before c =
    ap (exchanged g) (around_next xs i step inside item)
    ∙ exchanged_then (take i xs) (step ∷ drop (i + 1) xs) g
    ∙ ap (λ (r : Result Session Why). then r (step ∷ drop (i + 1) xs)) before
    ∙ ap (λ (r : Result Session Why). r >>= λ t. Ok (both (record { gadget = h; exchanges = done }) t)) (one_stalls h step (drop (i + 1) xs) why c)
one_stalled xs i g h step done NoMemory inside item before c = tt

-- all steps crossed
pub all_taken : (xs : List Exchange) (i : ℕ) → length xs ≤ i → take i xs ≡ xs
all_taken xs i h = take_long xs i h

-- at a new device the steps of the host never stall
pub never_stalls : (p : Params) → AreInRange p → (g : Gadget) (steps : List Exchange) (fault : ExchangeFault) (why : Why) → g ≡ first_gadget p → steps ≡ steps_of p → fault ≡ Stalled why → Stalls (exchanged g steps) fault → ⊥
never_stalls p range g steps fault why new host is h =
    let law : exchanged g steps ≡ Ok (record { gadget = ready p; exchanges = exchanges_of p }) = rw (new, host) (exchange_succeeds p range).crossed in
    let stalled : Stalls (exchanged g steps) (Stalled why) = rw is at h in
    cc

-- and what they leave is a device that was set up, and the exchanges of its class
pub all_crossed : (p : Params) → AreInRange p → (g h : Gadget) (steps es : List Exchange) → g ≡ first_gadget p → steps ≡ steps_of p → exchanged g steps ≡ Ok (record { gadget = h; exchanges = es }) → (h ≡ ready p) × (es ≡ exchanges_of p)
all_crossed p range g h steps es new host is =
    let law : exchanged g steps ≡ Ok (record { gadget = ready p; exchanges = exchanges_of p }) = rw (new, host) (exchange_succeeds p range).crossed in
    let same : record { gadget = h; exchanges = es } ≡ record { gadget = ready p; exchanges = exchanges_of p } = cc in
    (ap (λ (s : Session). s.gadget) same, ap (λ (s : Session). s.exchanges) same)

-- the configuration crosses first, where there is one
pub record BeginsWith (bytes : List ℕ) (es : List Exchange) : Type 0 where
  pub some : 0 < length es
  pub first : (d : Exchange) → (get_or es 0 d).payload ≡ bytes

first_as : (class : Class) (p : Params) → IsDescribed class → BeginsWith (configuration p) (exchanges_as class p)
first_as Ecm p h = record { some = omega arith; first = λ d. refl }
first_as Eem p h = record { some = omega arith; first = λ d. refl }
first_as Ncm16 p h = record { some = omega arith; first = λ d. refl }
first_as Ncm32 p h = record { some = omega arith; first = λ d. refl }
first_as Rndis p h = absurd h

pub first_crossed : (p : Params) → IsDescribed p.class → (es : List Exchange) → es ≡ exchanges_of p → BeginsWith (configuration p) es
first_crossed p h es e = rw e (first_as p.class p h)

-- the function is read from it
pub reads_first : (es : List Exchange) (e : Exchange) (f : Function) → 0 < length es → function_of (get_or es 0 e).payload ≡ Ok f → ReadsFirst es f
reads_first [] e f h read = absurd (omega arith)
reads_first (x ∷ xs) e f h read = read

pub is_read : (class : Class) (p : Params) (es : List Exchange) (f : Function) → IsDescribed class → ReadsFirst es f → IsRead class p es f
is_read Ecm p es f h read = read
is_read Eem p es f h read = read
is_read Ncm16 p es f h read = read
is_read Ncm32 p es f h read = read
is_read Rndis p es f h read = absurd h
