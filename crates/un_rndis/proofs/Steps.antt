-- Walking over the messages of a transfer, one at a time.
use Rattle.std.proofs.Common.{◌≡◌, ℕ, zero, suc, ◌+◌, ◌-◌, ◌<◌, ◌≤◌, Bool, true, false, if◌then◌else◌, List, [], ◌∷◌, length, Option, Some, None, refl, sym, ap, ◌∙◌, arith}
use Rattle.std.proofs.lemmas.Bool.Decides.{nat_tests}
use Rattle.un_frame.proofs.NtbLemmas.{none_or_else}
use Rattle.un_frame.proofs.RndisLemmas.{IsChecked, checked, fault_next, fault_past, past_end, places_next, places_past}
use Rattle.un_frame.specs.declared.fault.Fault.{Fault}
use Rattle.un_frame.specs.Bytes.{Place}
use Rattle.un_frame.specs.Fault.{or_else}
use Rattle.un_frame.specs.Rndis.{is_past, message_fault, message_frame, message_length, messages_fault, rndis_fault, rndis_places}
use Rattle.un_rndis.specs.Frames.{IsOn}
use Rattle.un_rndis.specs.Walk.{fault_from, places_from}

-- what stands behind a test or a check counts only where these find nothing
or_same : (m x y : Option Fault) → (m ≡ None → x ≡ y) → or_else m x ≡ or_else m y
or_same (Some f) x y same = refl
or_same None x y same = same refl

if_same : (b : Bool) (xs ys : List Place) → (b ≡ false → xs ≡ ys) → (if b then [] else xs) ≡ (if b then [] else ys)
if_same true xs ys same = refl
if_same false xs ys same = same refl

-- where a message begins, the end is not reached
more : (bytes : List ℕ) (at : ℕ) → is_past bytes at ≡ false → at < length bytes
more bytes at on = grind (arith, nat_tests, on)

-- with enough steps left, how many there are makes no difference
same_fault : (f g : ℕ) (bytes : List ℕ) (at : ℕ) → length bytes ≤ at + f → length bytes ≤ at + g → messages_fault f bytes at ≡ messages_fault g bytes at
unfolding messages_fault
same_fault zero zero bytes at h k = refl
same_fault zero (suc g) bytes at h k = let t = past_end bytes at (omega arith) in rw t refl
same_fault (suc f) zero bytes at h k = let t = past_end bytes at (omega arith) in rw t refl
same_fault (suc f) (suc g) bytes at h k =
    let next = at + message_length bytes at in
    let rest = or_same (message_fault bytes at) (messages_fault f bytes next) (messages_fault g bytes next) (λ none.
    let least = (checked bytes at none).least in
    same_fault f g bytes next (omega (arith, h, least)) (omega (arith, k, least))) in
    ap (λ (x : Option Fault). if is_past bytes at then None else x) rest

same_places : (f g : ℕ) (bytes : List ℕ) (at : ℕ) → length bytes ≤ at + f → length bytes ≤ at + g → messages_fault f bytes at ≡ None → rndis_places f bytes at ≡ rndis_places g bytes at
unfolding rndis_places
same_places zero zero bytes at h k none = refl
same_places zero (suc g) bytes at h k none = let t = past_end bytes at (omega arith) in rw t refl
same_places (suc f) zero bytes at h k none = let t = past_end bytes at (omega arith) in rw t refl
same_places (suc f) (suc g) bytes at h k none =
    let next = at + message_length bytes at in
    if_same (is_past bytes at) (message_frame bytes at ∷ rndis_places f bytes next) (message_frame bytes at ∷ rndis_places g bytes next) (λ on.
    let both = none_or_else (message_fault bytes at) (messages_fault f bytes next) (sym (fault_next f bytes at on) ∙ none) in
    let least = (checked bytes at both.0).least in
    ap (λ (ps : List Place). message_frame bytes at ∷ ps) (same_places f g bytes next (omega (arith, h, least)) (omega (arith, k, least)) both.1))

-- the first fault from a place on
pub fault_start : (bytes : List ℕ) → fault_from bytes 0 ≡ rndis_fault bytes
unfolding fault_from
fault_start bytes = same_fault (length bytes - 0) (length bytes) bytes 0 (omega arith) (omega arith)

pub fault_end : (bytes : List ℕ) (at : ℕ) → is_past bytes at ≡ true → fault_from bytes at ≡ None
unfolding fault_from
fault_end bytes at end = fault_past (length bytes - at) bytes at end

-- a fault stands before those of the messages behind it
fault_by : (bytes : List ℕ) (at : ℕ) → is_past bytes at ≡ false → fault_from bytes at ≡ or_else (message_fault bytes at) (fault_from bytes (at + message_length bytes at))
unfolding fault_from
fault_by bytes at on =
    let n = at + message_length bytes at in
    let some = more bytes at on in
    let left = length bytes - at - 1 in
    let rest = or_same (message_fault bytes at) (messages_fault left bytes n) (messages_fault (length bytes - n) bytes n) (λ none.
    let least = (checked bytes at none).least in
    same_fault left (length bytes - n) bytes n (omega (arith, some, least)) (omega arith)) in
    same_fault (length bytes - at) (suc left) bytes at (omega arith) (omega (arith, some)) ∙ fault_next left bytes at on ∙ rest

pub fault_here : (bytes : List ℕ) (at : ℕ) (f : Fault) → is_past bytes at ≡ false → message_fault bytes at ≡ Some f → fault_from bytes at ≡ Some f
fault_here bytes at f on e = fault_by bytes at on ∙ ap (λ (first : Option Fault). or_else first (fault_from bytes (at + message_length bytes at))) e

pub fault_on : (bytes : List ℕ) (at next : ℕ) → is_past bytes at ≡ false → message_fault bytes at ≡ None → next ≡ at + message_length bytes at → fault_from bytes next ≡ fault_from bytes at
fault_on bytes at next on e same = ap (fault_from bytes) same ∙ sym (fault_by bytes at on ∙ ap (λ (first : Option Fault). or_else first (fault_from bytes (at + message_length bytes at))) e)

-- where the messages from a place on have no fault, the first has none, nor have those behind it
pub first_checked : (bytes : List ℕ) (at : ℕ) → is_past bytes at ≡ false → IsOn bytes at → IsChecked bytes at
first_checked bytes at on sound = checked bytes at (none_or_else (message_fault bytes at) (fault_from bytes (at + message_length bytes at)) (sym (fault_by bytes at on) ∙ sound.none)).0

pub next_on : (bytes : List ℕ) (at next : ℕ) → is_past bytes at ≡ false → IsOn bytes at → next ≡ at + message_length bytes at → IsOn bytes next
next_on bytes at next on sound same =
    let whole = (first_checked bytes at on sound).whole in
    record {
      within = omega (arith, whole, same);
      none = ap (fault_from bytes) same ∙ (none_or_else (message_fault bytes at) (fault_from bytes (at + message_length bytes at)) (sym (fault_by bytes at on) ∙ sound.none)).1;
    }

pub places_end : (bytes : List ℕ) (at : ℕ) → is_past bytes at ≡ true → places_from bytes at ≡ []
unfolding places_from
places_end bytes at end = places_past (length bytes - at) bytes at end

pub places_on : (bytes : List ℕ) (at next : ℕ) → is_past bytes at ≡ false → IsOn bytes at → next ≡ at + message_length bytes at → places_from bytes at ≡ message_frame bytes at ∷ places_from bytes next
unfolding places_from fault_from
places_on bytes at next on sound same =
    let n = at + message_length bytes at in
    let some = more bytes at on in
    let least = (first_checked bytes at on sound).least in
    let left = length bytes - at - 1 in
    let whole = same_fault left (length bytes - n) bytes n (omega (arith, some, least)) (omega arith) in
    let behind = (next_on bytes at n on sound refl).none in
    same_places (length bytes - at) (suc left) bytes at (omega arith) (omega (arith, some)) sound.none ∙ places_next left bytes at on
    ∙ ap (λ (ps : List Place). message_frame bytes at ∷ ps) (same_places left (length bytes - n) bytes n (omega (arith, some, least)) (omega arith) (whole ∙ behind) ∙ ap (λ (m : ℕ). rndis_places (length bytes - m) bytes m) (sym same))

pub places_start : (bytes : List ℕ) → places_from bytes 0 ≡ rndis_places (length bytes) bytes 0
unfolding places_from
places_start bytes = ap (λ (n : ℕ). rndis_places n bytes 0) (omega arith)
